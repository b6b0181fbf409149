-- The place of a key among entries in the order of their keys, or the gap for it.
use Rattle.std.specs.{Prelude.◌≡◌, Prelude.ℕ, Prelude.◌<◌, Prelude.◌≤◌, Prelude.List, Prelude.length, Prelude.slice_index_or, declared.cmp.Ordering.Ordering}
use Rattle.std.specs.declared.cmp.Ordering.TheVariants.{Less, Equal, Greater}

-- the entry at place i has the key, and those before it have smaller ones
pub record IsPlaceOf {K X : Type 0} (cmp : K → K → Ordering) (entries : List (K × X))
    (key : K) (i : ℕ) : Type 0 where
  pub within : i < length entries
  pub before : (k : ℕ) (d : K × X) → k < i → cmp (slice_index_or entries k d).0 key ≡ Less
  pub here : (d : K × X) → cmp (slice_index_or entries i d).0 key ≡ Equal

-- the key would go at place i: smaller ones before it, and greater ones from it on
pub record IsGapFor {K X : Type 0} (cmp : K → K → Ordering) (entries : List (K × X))
    (key : K) (i : ℕ) : Type 0 where
  pub within : i ≤ length entries
  pub before : (k : ℕ) (d : K × X) → k < i → cmp (slice_index_or entries k d).0 key ≡ Less
  pub behind : (k : ℕ) (d : K × X) → i ≤ k → k < length entries
      → cmp (slice_index_or entries k d).0 key ≡ Greater
