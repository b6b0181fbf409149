-- A loop that takes the elements of one list into those of another, one after another, makes their
-- zip.
use Rattle.std.proofs.Common.{◌≡◌, ◌<◌, ◌≤◌, ℕ, List, length, get_or, arith, sym, ◌∙◌}
use Rattle.std.proofs.{lemmas.Grind.same_number_lists, lemmas.Simd.length-zip2, lemmas.Simd.get_or-zip2}
use Rattle.std.specs.Simd.Lanes.{zip2}

-- zs is xs with f taken of its first i elements and those of ys
pub record IsZippedTo (f : ℕ → ℕ → ℕ) (xs ys zs : List ℕ) (i : ℕ) : Type 0 where
  pub size : length zs ≡ length xs
  pub done : (k : ℕ) → k < i → get_or zs k 0 ≡ f (get_or xs k 0) (get_or ys k 0)
  pub rest : (k : ℕ) → i ≤ k → get_or zs k 0 ≡ get_or xs k 0

pub zipped_all : (f : ℕ → ℕ → ℕ) (xs ys zs : List ℕ) (i : ℕ) → length ys ≡ length xs → length xs ≤ i
    → IsZippedTo f xs ys zs i → zs ≡ zip2 f xs ys
zipped_all f xs ys zs i same h z =
    same_number_lists zs (zip2 f xs ys) (z.size ∙ sym (length-zip2 f xs ys (sym same)))
    (λ k below. let inside : k < length xs = omega (arith, z.size) in
    z.done k (omega arith) ∙ sym (get_or-zip2 f xs ys k 0 0 0 inside (omega arith)))
