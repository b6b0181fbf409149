-- The blocks that a message is cut into, and the state after them.
use Rattle.std.proofs.Common.{◌≡◌, ℕ, zero, suc, ◌+◌, ◌-◌, ◌*◌, ◌/◌, ◌%◌, ◌^◌, ◌<◌, ◌≤◌, true, false, nat_eq, List, ◌++◌, length, take, drop, refl, ap, sym, ◌∙◌, arith, length-append, length-drop, eq-eqb}
use Rattle.std.proofs.lemmas.Bool.{ne_eqb}
use Rattle.std.proofs.lemmas.List.{take-append-le, drop-append-le, append-nil, take_all, length-take-le}
use Rattle.cred_blake.specs.Blake2b.{compress, padded_block, block, block_count, counter, state_after}

pub state_after_none : (h d : List ℕ) → state_after h d 0 ≡ h
unfolding state_after
state_after_none h d = refl

pub state_after_next : (h d : List ℕ) (i : ℕ)
    → state_after h d (i + 1) ≡ compress (state_after h d i) (block d i) (counter d i) (nat_eq (i + 1) (block_count d))
unfolding state_after
state_after_next h d i =
    let plus : i + 1 ≡ suc i = omega arith in ap (λ (k : ℕ). state_after h d k) plus

-- a block that bytes come after
pub state_after_inner : (h d : List ℕ) (i : ℕ) → 128 * (i + 1) < length d
    → state_after h d (i + 1) ≡ compress (state_after h d i) (take 128 (drop (128 * i) d)) (128 * (i + 1) % 2 ^ 128) false
state_after_inner h d i more =
    let full : length (take 128 (drop (128 * i) d)) ≡ 128 = length-take-le 128 (drop (128 * i) d) (omega (arith, length-drop (128 * i) d)) in
    let not_padded : block d i ≡ take 128 (drop (128 * i) d) = rw full (append-nil (take 128 (drop (128 * i) d))) in
    let counts : counter d i ≡ 128 * (i + 1) % 2 ^ 128 = omega arith in
    let not_last : nat_eq (i + 1) (block_count d) ≡ false = ne_eqb (i + 1) (block_count d) (λ e. omega arith) in
    state_after_next h d i ∙ rw (not_padded, counts, not_last) refl

-- the last block
pub state_after_last : (h d : List ℕ) (i : ℕ) → i ≡ (length d - 1) / 128
    → state_after h d (block_count d) ≡ compress (state_after h d i) (padded_block (drop (128 * i) d)) (length d % 2 ^ 128) true
state_after_last h d i at =
    let whole : take 128 (drop (128 * i) d) ≡ drop (128 * i) d = take_all 128 (drop (128 * i) d) (omega (arith, length-drop (128 * i) d)) in
    let counts : counter d i ≡ length d % 2 ^ 128 = omega arith in
    let count : block_count d ≡ i + 1 = omega arith in
    let last : nat_eq (i + 1) (block_count d) ≡ true = eq-eqb (i + 1) (block_count d) (sym count) in
    rw count (state_after_next h d i ∙ rw (counts, last) (ap (λ (b : List ℕ). compress (state_after h d i) (padded_block b) (length d % 2 ^ 128) true) whole))

-- the blocks that bytes come after do not change when more bytes come
pub state_after_append : (h d x : List ℕ) (i : ℕ) → 128 * i ≤ length d - 1 → state_after h (d ++ x) i ≡ state_after h d i
state_after_append h d x zero le = state_after_none h (d ++ x) ∙ sym (state_after_none h d)
state_after_append h d x (suc i) le =
    let plus : suc i ≡ i + 1 = omega arith in
    let long : 128 * (i + 1) < length (d ++ x) = omega (arith, length-append d x) in
    let same : take 128 (drop (128 * i) (d ++ x)) ≡ take 128 (drop (128 * i) d) =
    ap (λ (b : List ℕ). take 128 b) (drop-append-le (128 * i) d x (omega arith)) ∙ take-append-le 128 (drop (128 * i) d) x (omega (arith, length-drop (128 * i) d)) in
    rw plus (state_after_inner h (d ++ x) i long ∙ rw (same, state_after_append h d x i (omega arith)) (sym (state_after_inner h d i (omega arith))))
