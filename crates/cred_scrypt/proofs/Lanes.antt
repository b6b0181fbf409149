-- Facts of each word of four vectors.
use Rattle.std.proofs.Common.{◌≡◌, ℕ, ◌<◌, ◌-◌, ◌*◌, ◌/◌, ◌%◌, ◌^◌, List, [], ◌∷◌, length, slice_index, bit_or, arith, refl, subst, sym}
use Rattle.std.proofs.NetLemmas.Arrays.{four_items, sixteen_items}
use Rattle.std.specs.{Simd.Lanes.zip2, Int.w32, Int.rotate_left}
use borrow.Enum.Match.{each_below}

below_four : (P : ℕ → Type 0) → P 0 → P 1 → P 2 → P 3 → (j : ℕ) → j < 4 → P j
below_four P p0 p1 p2 p3 = each_below 4 P (p3, (p2, (p1, (p0, tt))))

-- a fact of each list of four words
four_lanes : (P : List ℕ → Type 0) → ((a b c d : ℕ) → P (a ∷ b ∷ c ∷ d ∷ [])) → (xs : List ℕ) → length xs ≡ 4 → P xs
four_lanes P p xs h = subst P (sym (four_items xs h)) (p _ _ _ _)

-- two shifts of each word and an or are a rotation
abbrev Rotates : ℕ → List ℕ → Type 0
Rotates k x = (j : ℕ) → j < 4
    → slice_index (zip2 bit_or
    (zip2 (λ a n. a * 2 ^ n % 2 ^ 32) x (k ∷ k ∷ k ∷ k ∷ []))
    (zip2 (λ a n. a / 2 ^ n) x ((32 - k) ∷ (32 - k) ∷ (32 - k) ∷ (32 - k) ∷ []))) j
    ≡ rotate_left w32 (slice_index x j) k

pub lanes_rotate : (k : ℕ) → 0 < k → k < 32 → (x : List ℕ) → length x ≡ 4 → Rotates k x
lanes_rotate k low high =
    let left : k % 32 ≡ k = omega arith in
    let right : (32 - k) % 32 ≡ 32 - k = omega arith in
    four_lanes (Rotates k) (λ a0 a1 a2 a3.
    below_four _ (rw (left, right) refl) (rw (left, right) refl) (rw (left, right) refl) (rw (left, right) refl))

-- sixteen words, one by one
pub sixteen : (x : List ℕ) → length x ≡ 16
    → slice_index x 0 ∷ slice_index x 1 ∷ slice_index x 2 ∷ slice_index x 3
    ∷ slice_index x 4 ∷ slice_index x 5 ∷ slice_index x 6 ∷ slice_index x 7
    ∷ slice_index x 8 ∷ slice_index x 9 ∷ slice_index x 10 ∷ slice_index x 11
    ∷ slice_index x 12 ∷ slice_index x 13 ∷ slice_index x 14 ∷ slice_index x 15 ∷ [] ≡ x
sixteen x size = sym (sixteen_items x size)
