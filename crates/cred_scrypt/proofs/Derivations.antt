-- The definition of PBKDF2, one step on, as the loops' counters say it.
use Rattle.std.proofs.Common.{◌≡◌, ◌≤◌, ℕ, suc, ◌+◌, ◌-◌, List, ◌++◌, length, take, min, refl, sym, ◌∙◌, ap, ap₂, add-one, arith}
use Rattle.std.proofs.{lemmas.List.take_all, lemmas.List.take_min, Math.Seq.take-append-add}
use Rattle.cred_scrypt.specs.{Xor.xor_all, Pbkdf2.iteration, Pbkdf2.xor_of_iterations, Pbkdf2.derived_blocks}

-- from n turns to k = n + 1
pub iterations_next : (pw salt all last : List ℕ) (i n k : ℕ) → all ≡ xor_of_iterations pw salt i n → last ≡ iteration pw salt i k
    → k ≡ n + 1 → xor_all all last ≡ xor_of_iterations pw salt i k
unfolding xor_of_iterations
iterations_next pw salt all last i n k was next step =
    let after : k ≡ suc n = omega arith in
    rw after (ap₂ xor_all was (next ∙ ap (iteration pw salt i) after))

-- one block more
pub derived_next : (pw salt block : List ℕ) (c n : ℕ) → block ≡ xor_of_iterations pw salt (n + 1) (c - 1)
    → derived_blocks pw salt c (n + 1) ≡ derived_blocks pw salt c n ++ block
unfolding derived_blocks
derived_next pw salt block c n next = rw (add-one, next, add-one) refl

-- the last block is cut to what is left of the key
pub cut_next : (all block key : List ℕ) (len width : ℕ) → length all ≤ len → length block ≡ width
    → key ≡ take len all → key ++ take (min (len - length all) width) block ≡ take len (all ++ block)
cut_next all block key len width room wide was =
    let whole : key ≡ all = was ∙ take_all len all room in
    let least : take (min (len - length all) width) block ≡ take (len - length all) block =
    rw (← wide) (take_min (len - length all) block) in
    let reach : length all + (len - length all) ≡ len = omega arith in
    rw (whole, least) (sym (take-append-add all block (len - length all)) ∙ ap (λ n. take n (all ++ block)) reach)
