-- A block of which a half of each row is being put, where `put` says what becomes of a word.
use Rattle.std.proofs.Common.{◌≡◌, ℕ, ◌+◌, ◌*◌, ◌<◌, ◌≤◌, ◌⊎◌, List, length, slice_index, arith, refl, inl, inr, ap, ◌∙◌}
use Rattle.cred_argon.specs.Layout.{half_word}
use Rattle.std.proofs.lemmas.Bool.{cases_lt}

pub record IsPut (x y : List ℕ) (half : List (List ℕ)) (put : ℕ → ℕ → ℕ) (at k : ℕ) (old now : List ℕ) : Type 0 where
  pub len : length now ≡ 128
  pub written : (i : ℕ) → i < k → (e : ℕ) → e < 8
      → slice_index now (16 * i + at + e) ≡ put (slice_index old (16 * i + at + e)) (half_word x y half at i e)
  pub ahead : (n : ℕ) → 16 * k + at ≤ n → slice_index now n ≡ slice_index old n
  pub kept : (i : ℕ) → i < 8 → (r : ℕ) → r < 16 → (r < at) ⊎ (at + 8 ≤ r) → slice_index now (16 * i + r) ≡ slice_index old (16 * i + r)

-- one row more
pub put_step : (x y : List ℕ) (half : List (List ℕ)) (put : ℕ → ℕ → ℕ) (at k s : ℕ) (old now next : List ℕ) → at ≤ 8 → s ≡ 16 * k + at
    → IsPut x y half put at k old now → length next ≡ 128
    → ((e : ℕ) → e < 8 → slice_index next (s + e) ≡ put (slice_index now (s + e)) (half_word x y half at k e))
    → ((n : ℕ) → (n < s) ⊎ (s + 8 ≤ n) → slice_index next n ≡ slice_index now n)
    → IsPut x y half put at (k + 1) old next
put_step x y half put at k s old now next few start is len_next row_put keep =
    record {
      len = len_next;
      written = λ i hi e he. elim (cases_lt i k) [
        | inl before ↦ keep (16 * i + at + e) (inl (omega (arith, before, start, he))) ∙ is.written i before e he
        | inr behind ↦
            let same : k ≡ i = omega (arith, behind, hi) in
            let place : s + e ≡ 16 * k + at + e = omega (arith, start) in
            let word = row_put e he in
            let placed : slice_index next (16 * k + at + e) ≡ put (slice_index now (16 * k + at + e)) (half_word x y half at k e) = rw place at word in
            let whole : slice_index next (16 * k + at + e) ≡ put (slice_index old (16 * k + at + e)) (half_word x y half at k e) =
            placed ∙ ap (λ (w : ℕ). put w (half_word x y half at k e)) (is.ahead (16 * k + at + e) (omega arith)) in
            rw same at whole
      ];
      ahead = λ n h. keep n (inr (omega (arith, h, start, few))) ∙ is.ahead n (omega (arith, h));
      kept = λ i hi r hr beside. elim (cases_lt (16 * i + r) s) [
        | inl front ↦ keep (16 * i + r) (inl front) ∙ is.kept i hi r hr beside
        | inr back ↦ keep (16 * i + r) (inr (elim beside [
          | inl left ↦ omega (arith, back, start, few, hr, left)
          | inr right ↦ omega (arith, back, start, few, hr, right)
        ])) ∙ is.kept i hi r hr beside
      ];
    }

pub no_row : (x y : List ℕ) (half : List (List ℕ)) (put : ℕ → ℕ → ℕ) (at : ℕ) (old : List ℕ) → length old ≡ 128 → IsPut x y half put at 0 old old
no_row x y half put at old len_old =
    record {
      len = len_old;
      written = λ i hi e he. omega (arith, hi);
      ahead = λ n h. refl;
      kept = λ i hi r hr beside. refl;
    }
