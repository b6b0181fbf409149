-- Two neighbours of a list, set in its two halves.
use Rattle.std.proofs.Common.{◌≡◌, ℕ, ◌<◌, ◌≤◌, ◌+◌, ◌-◌, List, ◌++◌, length, slice_index_or, slice_set, inl, inr, arith, ◌∙◌}
use Rattle.std.proofs.{lemmas.Bool.cases_lt, lemmas.List.get_or_append_left, lemmas.List.get_or-append_right, lemmas.List.get_or-set_same, lemmas.List.length-set}

pub both_held : {X : Type 0} (P : X → X → Type 0) (old front back : List X) (at : ℕ) (x y d : X) → length front ≡ at + 1 → 0 < length back
    → P (slice_index_or old at d) x → P (slice_index_or old (at + 1) d) y
    → (i : ℕ) → at ≤ i → i < at + 2 → P (slice_index_or old i d) (slice_index_or (slice_set front at x ++ slice_set back 0 y) i d)
both_held P old front back at x y d front_len some first second i above below = elim (cases_lt i (at + 1)) [
  | inl before ↦
      let same : i ≡ at = omega (arith, above, before) in
      let inside : at < length (slice_set front at x) = rw (length-set front at x) (omega (arith, front_len)) in
      rw (same, get_or_append_left (slice_set front at x) (slice_set back 0 y) d at inside, get_or-set_same front at x d (omega (arith, front_len))) first
  | inr behind ↦
      let same : i ≡ at + 1 = omega (arith, below, behind) in
      let none : at + 1 - (at + 1) ≡ 0 = omega arith in
      rw (same, get_or-append_right (slice_set front at x) (slice_set back 0 y) (at + 1) (at + 1) d (length-set front at x ∙ front_len) (omega arith), none, get_or-set_same back 0 y d some) second
]
