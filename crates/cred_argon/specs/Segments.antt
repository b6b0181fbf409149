-- The code's memory: four slices, each a list of one segment a lane, and the slices that the lanes
-- share while one is worked.
use Rattle.std.specs.Prelude.{◌≡◌, ℕ, ◌+◌, ◌-◌, ◌*◌, ◌/◌, ◌%◌, ◌<◌, ◌≤◌, List, length, slice_index_or, vec_len, vec_capacity}
use Rattle.cred_argon.specs.{declared.block.Block.Block, declared.segment.Segment.Segment, declared.segment.Shared.Shared}
use Rattle.cred_argon.specs.{Parameters.Parameters, Parameters.segment_len, Places.place, Cells.cell, Turns.number}

-- a segment for each lane, in order, with room for its blocks: it has them all if n segments or
-- more were worked before segment g, and otherwise as many as it began with
pub record IsSlice (a : Parameters) (g n start : ℕ) (segments : List Segment) : Type 0 where
  pub count : length segments ≡ a.lanes
  pub lane : (l : ℕ) (d : Segment) → l < a.lanes → (slice_index_or segments l d).lane ≡ l
  pub room : (l : ℕ) (d : Segment) → l < a.lanes
      → segment_len a ≤ vec_capacity (slice_index_or segments l d).blocks
  pub full : n ≤ g → (l : ℕ) (d : Segment) → l < a.lanes
      → vec_len (slice_index_or segments l d).blocks ≡ segment_len a
  pub begun : g < n → (l : ℕ) (d : Segment) → l < a.lanes
      → vec_len (slice_index_or segments l d).blocks ≡ start

-- a segment with all its blocks for each lane
pub record IsFull (a : Parameters) (segments : List Segment) : Type 0 where
  pub count : length segments ≡ a.lanes
  pub full : (l : ℕ) (d : Segment) → l < a.lanes
      → vec_len (slice_index_or segments l d).blocks ≡ segment_len a

-- the blocks of a lane's segment, and of each lane's, are the cells of segment g
abbrev pub HoldsSegment : Parameters → List ℕ → ℕ → ℕ → List Block → Type 0
HoldsSegment a h g l blocks =
    (k : ℕ) (d : Block) → k < segment_len a
    → (slice_index_or blocks k d).0 ≡ cell a h (place (g / 4) l (g % 4 * segment_len a + k))

abbrev pub HoldsSlice : Parameters → List ℕ → ℕ → List Segment → Type 0
HoldsSlice a h g segments =
    (l : ℕ) (d : Segment) → l < a.lanes
    → HoldsSegment a h g l (slice_index_or segments l d).blocks.items

-- the slices that the lanes share: those of the three slices before that were worked have all
-- blocks, as `full` says of a slice
pub record IsShaped {S : Type 0} (full : Parameters → S → Type 0) (c : Shared S) : Type 0 where
  pub slice : c.turn.slice < 4
  pub oldest : 3 ≤ number c.turn → full c.turn.params c.oldest
  pub middle : 2 ≤ number c.turn → full c.turn.params c.middle
  pub newest : 1 ≤ number c.turn → full c.turn.params c.newest

-- the shared slices hold the cells of their segments, as `holds` says of a slice
pub record SharedHolds {S : Type 0} (holds : Parameters → List ℕ → ℕ → S → Type 0) (h : List ℕ)
    (c : Shared S) : Type 0 where
  pub oldest : 3 ≤ number c.turn → holds c.turn.params h (number c.turn - 3) c.oldest
  pub middle : 2 ≤ number c.turn → holds c.turn.params h (number c.turn - 2) c.middle
  pub newest : 1 ≤ number c.turn → holds c.turn.params h (number c.turn - 1) c.newest
