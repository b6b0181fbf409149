-- The slice that is worked, and one lane's segment of it. Segments are counted over all passes, so
-- that segment g is that of pass g / 4 and slice g % 4.
use Rattle.std.specs.Prelude.{◌≡◌, ℕ, ◌+◌, ◌-◌, ◌*◌, ◌<◌, ◌≤◌, List, length, slice_index_or, ◌==◌, if◌then◌else◌}
use Rattle.cred_argon.specs.{declared.block.Block.Block, declared.place.Place.Place, declared.position.Position.Position, declared.position.Reference.Reference}
use Rattle.cred_argon.specs.{declared.turn.Turn.Turn, Parameters.segment_len, Places.place, Times.IsBefore, Cells.cell}

-- the number of the segment that is worked
abbrev pub number : Turn → ℕ
number c = 4 * c.pass + c.slice

-- the first column that is worked in a segment, and how many blocks the segment has before
abbrev pub first_offset : Turn → ℕ
first_offset c = if number c == 0 then 2 else 0

abbrev pub begun_len : Turn → ℕ
begun_len c = if c.pass == 0 then first_offset c else segment_len c.params

-- the position of an offset in a lane's segment, and its place
abbrev pub position_in : Turn → ℕ → ℕ → Position
position_in c l k = record { pass = c.pass; lane = l; slice = c.slice; offset = k }

abbrev pub place_in : Turn → ℕ → ℕ → Place
place_in c l k = place c.pass l (c.slice * segment_len c.params + k)

-- the blocks of a segment that are done are cells of this pass
abbrev pub DoneHolds : List ℕ → Turn → ℕ → List Block → Type 0
DoneHolds h c l blocks =
    (i : ℕ) (d : Block) → i < length blocks
    → (slice_index_or blocks i d).0 ≡ cell c.params h (place_in c l i)

-- a segment that is worked up to k: before it the cells of this pass, after it those of the pass
-- before
pub record OwnHolds (h : List ℕ) (c : Turn) (l k : ℕ) (blocks : List Block) : Type 0 where
  pub new : (i : ℕ) (d : Block) → i < k
      → (slice_index_or blocks i d).0 ≡ cell c.params h (place_in c l i)
  pub old : (i : ℕ) (d : Block) → k ≤ i → i < segment_len c.params → 0 < c.pass
      → (slice_index_or blocks i d).0
      ≡ cell c.params h (place (c.pass - 1) l (c.slice * segment_len c.params + i))

-- a place that the place of an offset may refer to lies at this lane and column
abbrev pub IsReadable : Turn → ℕ → ℕ → Reference → Type 0
IsReadable c l k reference =
    (there : Place) × IsBefore (segment_len c.params) c.params.lanes (place_in c l k) there
    × (there.lane ≡ reference.lane) × (there.column ≡ reference.column)
