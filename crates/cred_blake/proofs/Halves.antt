-- H' piece by piece.
use Rattle.std.proofs.Common.{◌≡◌, ℕ, suc, ◌+◌, ◌-◌, ◌*◌, ◌/◌, ◌<◌, ◌≤◌, true, false, nat_le, List, [], ◌++◌, take, refl, ap, arith}
use Rattle.std.proofs.lemmas.Bool.Decides.{nat_tests}
use Rattle.std.specs.Int.{w32, to_le_bytes}
use Rattle.cred_blake.specs.{Blake2b.blake, HashPrime.chain, HashPrime.halves, HashPrime.hash_prime}

pub hash_prime_short : (t : ℕ) (a : List ℕ) → t ≤ 64 → hash_prime t a ≡ blake t [] (to_le_bytes w32 t ++ a)
unfolding hash_prime
hash_prime_short t a short = let test : nat_le t 64 ≡ true = grind (arith, nat_tests) in rw test refl

pub hash_prime_long : (t : ℕ) (a : List ℕ) (r : ℕ) → 64 < t → r ≡ (t + 31) / 32 - 2
    → hash_prime t a ≡ halves t a r ++ blake (t - 32 * r) [] (chain t a (r - 1))
unfolding hash_prime
hash_prime_long t a r long count = let test : nat_le t 64 ≡ false = grind (arith, nat_tests) in rw (test, count) refl

pub chain_next : (t : ℕ) (a : List ℕ) (i : ℕ) → 1 ≤ i → chain t a i ≡ blake 64 [] (chain t a (i - 1))
unfolding chain
chain_next t a i later = let from : i ≡ suc (i - 1) = omega arith in ap (λ (k : ℕ). chain t a k) from

pub halves_next : (t : ℕ) (a : List ℕ) (r : ℕ) → halves t a (r + 1) ≡ halves t a r ++ take 32 (chain t a r)
unfolding halves
halves_next t a r = let plus : r + 1 ≡ suc r = omega arith in ap (λ (k : ℕ). halves t a k) plus
