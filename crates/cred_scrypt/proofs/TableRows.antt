-- The table of ROMix row by row, and the row that Integerify names.
use Rattle.std.proofs.Common.{◌≡◌, ◌<◌, ◌≤◌, ℕ, ◌+◌, ◌*◌, ◌-◌, ◌%◌, ◌^◌, List, [], ◌∷◌, ◌++◌, length, take, drop, get_or, refl, sym, ◌∙◌, ap, add-one, arith, below_more, length-append}
use Rattle.std.proofs.lemmas.List.{drop-append-le, take-append-le, take_all, get_or-take, get_or-drop, length-drop}
use Rattle.std.proofs.{lemmas.Nat.column_fits, lemmas.Nat.pow-add, Math.Nat.add-mul-mod_self_left, Math.Seq.drop-append_seam}
use Rattle.cred_scrypt.specs.Xor.{xor_all}
use Rattle.cred_scrypt.specs.Mixing.{block_at, block_mix, mixes, little_endian, integerify, second_loop, ro_mix}
use Rattle.cred_scrypt.specs.Table.{IsTable, row_at}

-- a row stays as it is when the next one is appended
row_at-append_le : (r : ℕ) (table x : List ℕ) (i : ℕ) → 32 * r * i + 32 * r ≤ length table
    → row_at r (table ++ x) i ≡ row_at r table i
row_at-append_le r table x i inside =
    let low : 32 * r * i ≤ length table = omega arith in
    let long : 32 * r ≤ length (drop (32 * r * i) table) = omega (arith, length-drop (32 * r * i) table) in
    ap (take (32 * r)) (drop-append-le (32 * r * i) table x low) ∙ take-append-le (32 * r) _ x long

row_at-append_end : (r : ℕ) (table x : List ℕ) (n : ℕ) → length table ≡ 32 * r * n → length x ≡ 32 * r
    → row_at r (table ++ x) n ≡ x
row_at-append_end r table x n size width =
    ap (λ k. take (32 * r) (drop k (table ++ x))) (sym size)
    ∙ ap (take (32 * r)) (drop-append_seam table x)
    ∙ take_all (32 * r) x (omega arith)

pub one_row_more : (r : ℕ) (b table x : List ℕ) (n : ℕ) → IsTable r b table n → x ≡ mixes r b n
    → length x ≡ 32 * r → IsTable r b (table ++ x) (n + 1)
one_row_more r b table x n t next width = record {
  size = omega (arith, length-append table x, t.size);
  row = below_more (λ i. row_at r (table ++ x) i ≡ mixes r b i) n
      (λ i below. row_at-append_le r table x i (omega (arith, column_fits (32 * r) i (32 * r) n below (omega arith), t.size)) ∙ t.row i below)
      (row_at-append_end r table x n t.size width ∙ next);
}

-- the low bits of a number in words are those of its low word
little_endian-mod : (words : List ℕ) (ln : ℕ) → ln ≤ 32
    → little_endian words % 2 ^ ln ≡ get_or words 0 0 % 2 ^ ln
unfolding little_endian
little_endian-mod [] ln h = refl
little_endian-mod (w ∷ ws) ln h =
    let split : 2 ^ 32 ≡ 2 ^ ln * 2 ^ (32 - ln) =
    (let whole : 32 ≡ ln + (32 - ln) = omega arith in ap (λ k. 2 ^ k) whole ∙ pow-add 2 ln (32 - ln)) in
    let parts : w + 2 ^ 32 * little_endian ws ≡ w + 2 ^ ln * (2 ^ (32 - ln) * little_endian ws) =
    omega (arith, ap (λ k. k * little_endian ws) split) in
    ap (λ k. k % 2 ^ ln) parts ∙ add-mul-mod_self_left w (2 ^ ln) (2 ^ (32 - ln) * little_endian ws)

-- Integerify mod N needs one word alone: the first of the last block
pub integerify_low_word : (r : ℕ) (x : List ℕ) (ln : ℕ) → 1 ≤ r → ln ≤ 24
    → integerify r x % 2 ^ ln ≡ get_or x (32 * r - 16) 0 % 2 ^ ln
unfolding integerify
integerify_low_word r x ln some h =
    let place : 16 * (2 * r - 1) + 0 ≡ 32 * r - 16 = omega arith in
    little_endian-mod (block_at x (2 * r - 1)) ln (omega arith)
    ∙ ap (λ w. w % 2 ^ ln)
    (get_or-take 16 (drop (16 * (2 * r - 1)) x) 0 0 (omega arith)
    ∙ get_or-drop (16 * (2 * r - 1)) x 0 0 ∙ ap (λ k. get_or x k 0) place)

-- one step of the second loop, with the row j taken from the table
pub second_loop_next : (r n : ℕ) (b table x y z : List ℕ) (j k : ℕ) → IsTable r b table n → j < n
    → integerify r x % n ≡ j → x ≡ second_loop r n b k → y ≡ xor_all x (row_at r table j) → z ≡ block_mix r y
    → z ≡ second_loop r n b (k + 1)
unfolding second_loop
second_loop_next r n b table x y z j k t inside named was taken mixed =
    rw (add-one, ← was, named, ← t.row j inside, ← taken) mixed

pub second_loop_all : (r n k : ℕ) (b x : List ℕ) → n ≤ k → k ≤ n → x ≡ second_loop r n b k → x ≡ ro_mix r n b
unfolding ro_mix
second_loop_all r n k b x low high was = let all : k ≡ n = omega arith in was ∙ ap (second_loop r n b) all
