use Rattle.std.proofs.Common.{◌≡◌, ℕ, List, ◌+◌, ◌-◌, ◌*◌, ◌/◌, length, take, ap, sym, ◌∙◌, arith}
use Rattle.std.proofs.lemmas.List.{append-nil, take_all}
use Rattle.cred_blake.specs.HashPrime.{chain, halves}
use Rattle.cred_blake.proofs.Halves.{hash_prime_short, hash_prime_long, chain_next, halves_next}
use Rattle.cred_blake.proofs.variable_length.write_hash_prime.Goals as goal

pub returns-then-len-le-MAX_LEN : goal.returns-then-len-le-MAX_LEN
returns-then-len-le-MAX_LEN c =
    let t : ℕ = length c.args.out.now in
    let all : 0 + length c.bytes.result.now ≡ t = omega (arith, ap length c.bytes.ensures) in
    let written = rw all at c.put.ensures in
    let value = rw c.to_le_bytes-prefix.ensures at c.hash.ensures.value in
    sym (take_all t c.put.new.out (omega arith)) ∙ written ∙ c.bytes.ensures ∙ value ∙ sym (hash_prime_short t c.args.input.now (omega arith))

pub loop-i-init : goal.loop-i-init
unfolding chain halves
loop-i-init c =
    let t : ℕ = length c.args.out.now in
    let a = c.args.input.now in
    let first : c.hash-v.result ≡ chain t a 0 = rw c.to_le_bytes-prefix.ensures at c.hash-v.ensures.value in
    let width : 0 + length c.first_half.result.now ≡ 32 = omega arith in
    let written = rw width at c.put-2.ensures in
    (omega arith, c.hash-v.ensures.len, first, written ∙ c.first_half.ensures.value ∙ ap (λ (v : List ℕ). take 32 v) first)

pub loop-i-preserved : goal.loop-i-preserved
loop-i-preserved c =
    let t : ℕ = length c.args.out.now in
    let a = c.args.input.now in
    let i : ℕ = c.loop-i.i in
    let held = c.loop-i.invariant in
    let back : i + 1 - 1 ≡ i = omega arith in
    let next : c.hash-v-in-loop-i.result ≡ chain t a i =
    c.hash-v-in-loop-i.ensures.value ∙ rw (append-nil, c.bytes-in-loop-i.ensures, held.2) (sym (chain_next t a i (omega arith))) in
    let width : 32 * i + length c.first_half-in-loop-i.result.now ≡ 32 * (i + 1) = omega (arith, c.first_half-in-loop-i.ensures.len) in
    let written = rw width at c.put-in-loop-i.ensures in
    (omega arith, c.hash-v-in-loop-i.ensures.len, rw back next, written ∙ rw (held.3, c.first_half-in-loop-i.ensures.value, next) (sym (halves_next t a i)))

pub returns : goal.returns
returns c =
    let t : ℕ = length c.args.out.now in
    let a = c.args.input.now in
    let r : ℕ = c.div_ceil-half_count.result - 2 in
    let count : r ≡ (t + 31) / 32 - 2 = omega (arith, c.div_ceil-half_count.ensures) in
    let done : c.loop-i.i ≡ r = omega (arith, c.loop-i.auto.i-end (omega arith)) in
    let before = rw done at c.loop-i.invariant.3 in
    let v = rw done at c.loop-i.invariant.2 in
    let all : 32 * r + length c.bytes-3.result.now ≡ t = omega (arith, ap length c.bytes-3.ensures, c.hash-last.ensures.len) in
    let written = rw all at c.put-3.ensures in
    sym (take_all t c.put-3.new.out (omega arith)) ∙ written
    ∙ rw (before, c.bytes-3.ensures, c.hash-last.ensures.value, append-nil, c.bytes-2.ensures, v) (sym (hash_prime_long t a r (omega arith) count))
