-- The definition of BlockMix, one step on, as the loop's counter says it.
use Rattle.std.proofs.Common.{◌≡◌, ℕ, ◌+◌, ◌*◌, suc, List, ◌++◌, refl, ◌∙◌, ap, add-one, arith}
use Rattle.cred_scrypt.specs.{Xor.xor_all, Salsa.salsa20_8, Mixing.block_at, Mixing.chain, Mixing.every_second}

-- from X after i blocks, X after k = i + 1 blocks
pub chain_next : (r : ℕ) (b x : List ℕ) (i k : ℕ) → x ≡ chain r b i → k ≡ i + 1
    → salsa20_8 (xor_all x (block_at b i)) ≡ chain r b k
unfolding chain
chain_next r b x i k was step =
    ap (λ y. salsa20_8 (xor_all y (block_at b i))) was
    ∙ (let after : suc i ≡ k = omega arith in ap (chain r b) after)

pub every_second_next : (r : ℕ) (b done x : List ℕ) (s i k : ℕ) → done ≡ every_second r b s i → x ≡ chain r b k
    → k ≡ 2 * i + s + 1 → done ++ x ≡ every_second r b s (i + 1)
unfolding every_second
every_second_next r b done x s i k was next place =
    rw (add-one, was, next, place) refl
