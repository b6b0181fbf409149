-- The property that makes a closure a crew.
use Rattle.std.specs.Prelude.{ℕ, ◌<◌, List, length, slice_index_or}
use denote.Ref.{Bor, MutBor}
use denote.Param.Members.{Shared}

-- the closure f may be called wherever each part of the slice can be worked, and a call works each
pub record WorksEach {F C P : Type 0}
    (g : Shared F (Bor C × (MutBor (List P) × Unit {0})) (Unit {0} × (MutBor (List P) × Unit {0})))
    (f : F) (can : C → P → Type 0) (works : C → P → P → Type 0) : Type 0 where
  pub takes : (c : Bor C) (parts : MutBor (List P))
      → ((i : ℕ) (d : P) → i < length parts.now → can c.now (slice_index_or parts.now i d))
      → g.pre f (c, (parts, tt))
  pub leaves : (c : Bor C) (old new : MutBor (List P)) → g.post f (c, (old, tt)) (tt, (new, tt))
      → (i : ℕ) (d : P) → i < length old.now
      → works c.now (slice_index_or old.now i d) (slice_index_or new.now i d)
