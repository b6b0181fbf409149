-- Facts of each slot of a vector of eight words.
use Rattle.std.proofs.Common.{◌≡◌, ℕ, ◌<◌, ◌+◌, ◌-◌, ◌*◌, ◌/◌, ◌%◌, ◌^◌, List, [], ◌∷◌, length, slice_index, bit_and, bit_or, bit_xor, arith, refl, subst, sym}
use Rattle.std.proofs.{lemmas.Nat.and_mask, NetLemmas.Arrays.eight_items}
use borrow.Enum.Match.{each_below}
use Rattle.std.specs.{Simd.Lanes.zip2, Int.w64, Int.rotate_right}
use Rattle.cred_argon.specs.Compress.{add_product, mixing_at, column_step, diagonal_step}

pub below_four : (P : ℕ → Type 0) → P 0 → P 1 → P 2 → P 3 → (j : ℕ) → j < 4 → P j
below_four P p0 p1 p2 p3 = each_below 4 P (p3, (p2, (p1, (p0, tt))))

pub below_eight : (P : ℕ → Type 0) → P 0 → P 1 → P 2 → P 3 → P 4 → P 5 → P 6 → P 7 → (j : ℕ) → j < 8 → P j
below_eight P p0 p1 p2 p3 p4 p5 p6 p7 = each_below 8 P (p7, (p6, (p5, (p4, (p3, (p2, (p1, (p0, tt))))))))

-- a fact of each list of eight elements
eight_slots : (P : List ℕ → Type 0) → ((a b c d e f g h : ℕ) → P (a ∷ b ∷ c ∷ d ∷ e ∷ f ∷ g ∷ h ∷ [])) → (xs : List ℕ) → length xs ≡ 8 → P xs
eight_slots P p xs h = subst P (sym (eight_items xs h)) (p _ _ _ _ _ _ _ _)

abbrev sum64 : List ℕ → List ℕ → List ℕ
sum64 = zip2 (λ a b. (a + b) % 2 ^ 64)

abbrev low_halves : List ℕ → List ℕ
low_halves x = zip2 bit_and x (4294967295 ∷ 4294967295 ∷ 4294967295 ∷ 4294967295 ∷ 4294967295 ∷ 4294967295 ∷ 4294967295 ∷ 4294967295 ∷ [])

abbrev products : List ℕ → List ℕ → List ℕ
products x y = zip2 (λ a b. (a * b) % 2 ^ 64) (low_halves x) (low_halves y)

abbrev AddsProduct : List ℕ → List ℕ → Type 0
AddsProduct x y = (j : ℕ) → j < 8
    → slice_index (sum64 (sum64 (sum64 x y) (products x y)) (products x y)) j ≡ add_product (slice_index x j) (slice_index y j)

add_one : (a b : ℕ)
    → (((a + b) % 2 ^ 64 + bit_and a 4294967295 * bit_and b 4294967295 % 2 ^ 64) % 2 ^ 64 + bit_and a 4294967295 * bit_and b 4294967295 % 2 ^ 64) % 2 ^ 64
    ≡ add_product a b
add_one a b = rw (and_mask a 32, and_mask b 32) (sums (a + b) (a % 2 ^ 32 * (b % 2 ^ 32)))
  where
    sums : (s q : ℕ) → ((s % 2 ^ 64 + q % 2 ^ 64) % 2 ^ 64 + q % 2 ^ 64) % 2 ^ 64 ≡ (s + 2 * q) % 2 ^ 64
    sums s q = omega arith

pub slots_add : (x : List ℕ) → length x ≡ 8 → (y : List ℕ) → length y ≡ 8 → AddsProduct x y
slots_add =
    eight_slots (λ x. (y : List ℕ) → length y ≡ 8 → AddsProduct x y) (λ a0 a1 a2 a3 a4 a5 a6 a7.
    eight_slots (AddsProduct (a0 ∷ a1 ∷ a2 ∷ a3 ∷ a4 ∷ a5 ∷ a6 ∷ a7 ∷ [])) (λ b0 b1 b2 b3 b4 b5 b6 b7.
    below_eight _ (add_one a0 b0) (add_one a1 b1) (add_one a2 b2) (add_one a3 b3) (add_one a4 b4) (add_one a5 b5) (add_one a6 b6) (add_one a7 b7)))

-- two shifts of each slot and an or are a rotation
abbrev Rotates : ℕ → List ℕ → Type 0
Rotates k x = (j : ℕ) → j < 8
    → slice_index (zip2 bit_or
    (zip2 (λ a n. a / 2 ^ n) x (k ∷ k ∷ k ∷ k ∷ k ∷ k ∷ k ∷ k ∷ []))
    (zip2 (λ a n. a * 2 ^ n % 2 ^ 64) x ((64 - k) ∷ (64 - k) ∷ (64 - k) ∷ (64 - k) ∷ (64 - k) ∷ (64 - k) ∷ (64 - k) ∷ (64 - k) ∷ []))) j
    ≡ rotate_right w64 (slice_index x j) k

pub slots_rotate : (k : ℕ) → 0 < k → k < 64 → (x : List ℕ) → length x ≡ 8 → Rotates k x
slots_rotate k low high =
    let right : k % 64 ≡ k = omega arith in
    let left : (64 - k) % 64 ≡ 64 - k = omega arith in
    eight_slots (Rotates k) (λ a0 a1 a2 a3 a4 a5 a6 a7.
    below_eight _ (rw (right, left) refl) (rw (right, left) refl) (rw (right, left) refl) (rw (right, left) refl) (rw (right, left) refl) (rw (right, left) refl) (rw (right, left) refl) (rw (right, left) refl))

-- a fact of each of sixteen places
pub below_sixteen : (P : ℕ → Type 0) → P 0 → P 1 → P 2 → P 3 → P 4 → P 5 → P 6 → P 7
    → P 8 → P 9 → P 10 → P 11 → P 12 → P 13 → P 14 → P 15 → (k : ℕ) → k < 16 → P k
below_sixteen P a0 a1 a2 a3 b0 b1 b2 b3 c0 c1 c2 c3 d0 d1 d2 d3 =
    each_below 16 P (d3, (d2, (d1, (d0, (c3, (c2, (c1, (c0, (b3, (b2, (b1, (b0, (a3, (a2, (a1, (a0, tt))))))))))))))))

-- a list after four mixings
pub column_step_is : (v : List ℕ) (q0 q1 q2 q3 : ℕ × ℕ × ℕ × ℕ)
    → q0 ≡ mixing_at v 0 4 8 12 → q1 ≡ mixing_at v 1 5 9 13 → q2 ≡ mixing_at v 2 6 10 14 → q3 ≡ mixing_at v 3 7 11 15
    → q0.0 ∷ q1.0 ∷ q2.0 ∷ q3.0 ∷ q0.1 ∷ q1.1 ∷ q2.1 ∷ q3.1 ∷ q0.2 ∷ q1.2 ∷ q2.2 ∷ q3.2 ∷ q0.3 ∷ q1.3 ∷ q2.3 ∷ q3.3 ∷ [] ≡ column_step v
unfolding column_step
column_step_is v q0 q1 q2 q3 h0 h1 h2 h3 = rw (h0, h1, h2, h3) refl

pub diagonal_step_is : (v : List ℕ) (q0 q1 q2 q3 : ℕ × ℕ × ℕ × ℕ)
    → q0 ≡ mixing_at v 0 5 10 15 → q1 ≡ mixing_at v 1 6 11 12 → q2 ≡ mixing_at v 2 7 8 13 → q3 ≡ mixing_at v 3 4 9 14
    → q0.0 ∷ q1.0 ∷ q2.0 ∷ q3.0 ∷ q3.1 ∷ q0.1 ∷ q1.1 ∷ q2.1 ∷ q2.2 ∷ q3.2 ∷ q0.2 ∷ q1.2 ∷ q1.3 ∷ q2.3 ∷ q3.3 ∷ q0.3 ∷ [] ≡ diagonal_step v
unfolding diagonal_step
diagonal_step_is v q0 q1 q2 q3 h0 h1 h2 h3 = rw (h0, h1, h2, h3) refl

-- a word of an XOR, at a place that is written in two ways
pub xored_at : (a b : List ℕ) (w n m : ℕ) → w ≡ bit_xor (slice_index a n) (slice_index b n) → n ≡ m
    → w ≡ bit_xor (slice_index a m) (slice_index b m)
xored_at a b w n m word same = rw same at word
