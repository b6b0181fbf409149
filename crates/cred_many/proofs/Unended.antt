-- Lines, of which the last may have no end.
use Rattle.std.proofs.Common.{◌≡◌, ℕ, zero, suc, ◌+◌, ◌<◌, ◌≤◌, List, [], ◌∷◌, ◌++◌, length, take, drop, map, option_map, refl, arith, slice_get}
use Rattle.std.proofs.lemmas.{List.length-append, List.length-drop, List.length-map, List.length-take, Option.slice_get-map}
use Rattle.cred_cli.specs.Script.{line_ends}
use Rattle.cred_cli.proofs.Lines.{line_ends-append}
use Rattle.cred_many.specs.Service.{with_unended}

-- a line that ends later isn't counted yet
pub ends_sooner : (front rest : List ℕ) → line_ends front < line_ends (front ++ 10 ∷ rest)
ends_sooner front rest = let r : line_ends (front ++ 10 ∷ rest) ≡ line_ends front + suc (line_ends rest) = line_ends-append front (10 ∷ rest) in omega (arith, r)

module _ {A : Type 0} (f : A → A) where
  first_stay : (n : ℕ) (xs : List A) (i : ℕ) → i < n → slice_get (take n xs ++ map f (drop n xs)) i ≡ slice_get xs i
  first_stay zero xs i less = absurd (omega (arith, less))
  first_stay (suc n) [] i less = refl
  first_stay (suc n) (x ∷ xs) zero less = refl
  first_stay (suc n) (x ∷ xs) (suc i) less = first_stay n xs i (omega (arith, less))

  others_change : (n : ℕ) (xs : List A) (i : ℕ) → n ≤ i → slice_get (take n xs ++ map f (drop n xs)) i ≡ option_map f (slice_get xs i)
  others_change zero xs i le = slice_get-map f xs i
  others_change (suc n) [] i le = refl
  others_change (suc n) (x ∷ xs) zero le = absurd (omega (arith, le))
  others_change (suc n) (x ∷ xs) (suc i) le = others_change n xs i (omega (arith, le))

  module _ (bytes : List ℕ) (xs : List A) where
    pub length-unended : length (with_unended f bytes xs) ≡ length xs
    unfolding with_unended
    length-unended = simp (length-append, length-map, length-take, length-drop) (omega arith)

    -- the lines with their ends
    pub unended_at : (i : ℕ) → i < line_ends bytes → slice_get (with_unended f bytes xs) i ≡ slice_get xs i
    unfolding with_unended
    unended_at i within = first_stay (line_ends bytes) xs i within

    -- and the line without its end
    pub unended_last : (i : ℕ) → i ≡ line_ends bytes → slice_get (with_unended f bytes xs) i ≡ option_map f (slice_get xs i)
    unfolding with_unended
    unended_last i last = others_change (line_ends bytes) xs i (omega (arith, last))
