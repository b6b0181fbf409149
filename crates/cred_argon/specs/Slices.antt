-- The memory between two slices.
use Rattle.std.specs.Prelude.{◌≡◌, ℕ, ◌-◌, ◌<◌, ◌≤◌, List, length, slice_index_or, vec_len, vec_capacity, ◌==◌, if◌then◌else◌}
use Rattle.cred_argon.specs.{declared.block.Block.Block, declared.segment.Segment.Segment, declared.memory.Memory.Memory}
use Rattle.cred_argon.specs.{Parameters.Parameters, Parameters.segment_len, Places.place, Cells.cell, Cells.first_cell, Segments.IsSlice, Segments.HoldsSlice}

-- the shapes of the four slices before segment g of each lane is worked
pub record IsMemory (g : ℕ) (m : Memory) : Type 0 where
  pub at_current : IsSlice m.shared.turn.params g 4 (if g == 0 then 2 else 0) m.current.items
  pub at_oldest : IsSlice m.shared.turn.params g 3 0 m.shared.oldest.items
  pub at_middle : IsSlice m.shared.turn.params g 2 0 m.shared.middle.items
  pub at_newest : IsSlice m.shared.turn.params g 1 0 m.shared.newest.items

-- the contents of the slices: the segment to be worked as it was on the pass before, and the three
-- before it
pub record MemoryHolds (h : List ℕ) (g : ℕ) (m : Memory) : Type 0 where
  pub begun : g ≡ 0 → (l : ℕ) (d : Segment) (i : ℕ) (e : Block)
      → l < m.shared.turn.params.lanes → i < 2
      → (slice_index_or (slice_index_or m.current.items l d).blocks.items i e).0
      ≡ cell m.shared.turn.params h (place 0 l i)
  pub at_current : 4 ≤ g → HoldsSlice m.shared.turn.params h (g - 4) m.current.items
  pub at_oldest : 3 ≤ g → HoldsSlice m.shared.turn.params h (g - 3) m.shared.oldest.items
  pub at_middle : 2 ≤ g → HoldsSlice m.shared.turn.params h (g - 2) m.shared.middle.items
  pub at_newest : 1 ≤ g → HoldsSlice m.shared.turn.params h (g - 1) m.shared.newest.items

-- segments of the first n lanes with room for s blocks, and none there
pub record IsEmptySlice (s n : ℕ) (segments : List Segment) : Type 0 where
  pub count : length segments ≡ n
  pub lane : (l : ℕ) (d : Segment) → l < n → (slice_index_or segments l d).lane ≡ l
  pub room : (l : ℕ) (d : Segment) → l < n → s ≤ vec_capacity (slice_index_or segments l d).blocks
  pub none : (l : ℕ) (d : Segment) → l < n → vec_len (slice_index_or segments l d).blocks ≡ 0

-- a slice of segments, of which the first n lanes have their first two blocks, and the others none
pub record IsBegun (a : Parameters) (h : List ℕ) (n : ℕ) (segments : List Segment) : Type 0 where
  pub count : length segments ≡ a.lanes
  pub lane : (l : ℕ) (d : Segment) → l < a.lanes → (slice_index_or segments l d).lane ≡ l
  pub room : (l : ℕ) (d : Segment) → l < a.lanes
      → segment_len a ≤ vec_capacity (slice_index_or segments l d).blocks
  pub two : (l : ℕ) (d : Segment) → l < n → vec_len (slice_index_or segments l d).blocks ≡ 2
  pub none : (l : ℕ) (d : Segment) → n ≤ l → l < a.lanes
      → vec_len (slice_index_or segments l d).blocks ≡ 0
  pub first : (l : ℕ) (d : Segment) (i : ℕ) (e : Block) → l < n → i < 2
      → (slice_index_or (slice_index_or segments l d).blocks.items i e).0 ≡ first_cell h l i
