-- The memory as four slices of blocks that lie lane after lane, and a run whose segments are worked
-- by calls of their own. Segments are counted over all passes: segment g is that of pass g / 4 and
-- slice g % 4.
use Rattle.std.specs.Prelude.{◌≡◌, ℕ, ◌+◌, ◌-◌, ◌*◌, ◌/◌, ◌%◌, ◌<◌, ◌≤◌, List, slice_index_or, take, drop, nat_lt, if◌then◌else◌}
use Rattle.cred_argon.specs.{declared.block.Block.Block, Parameters.Parameters, Parameters.segment_len, Places.place, Cells.cell, Segments.HoldsSegment}

-- the blocks of a slice are the cells of segment g of each lane
abbrev pub HoldsBlocks : Parameters → List ℕ → ℕ → List Block → Type 0
HoldsBlocks a h g blocks =
    (l k : ℕ) (d : Block) → l < a.lanes → k < segment_len a
    → (slice_index_or blocks (l * segment_len a + k) d).0
    ≡ cell a h (place (g / 4) l (g % 4 * segment_len a + k))

-- the first two blocks of each of the first n lanes
abbrev pub HoldsFirstBlocks : Parameters → List ℕ → ℕ → List Block → Type 0
HoldsFirstBlocks a h n blocks =
    (l i : ℕ) (d : Block) → l < n → i < 2
    → (slice_index_or blocks (l * segment_len a + i) d).0 ≡ cell a h (place 0 l i)

-- segment g of a lane may be worked. Of the three slices before it, those that exist hold their
-- cells. The lane's own blocks are those of the pass before, or begin with the first two
pub record IsReady (a : Parameters) (h : List ℕ) (g l : ℕ) (oldest middle newest own : List Block)
    : Type 0 where
  pub three_back : 3 ≤ g → HoldsBlocks a h (g - 3) oldest
  pub two_back : 2 ≤ g → HoldsBlocks a h (g - 2) middle
  pub one_back : 1 ≤ g → HoldsBlocks a h (g - 1) newest
  pub before : 4 ≤ g → HoldsSegment a h (g - 4) l own
  pub first : g ≡ 0 → (i : ℕ) (d : Block) → i < 2
      → (slice_index_or own i d).0 ≡ cell a h (place 0 l i)

-- the work on segment g of a lane turns the segment's blocks into its cells, if the segment may be
-- worked
abbrev pub WorksSegment : Parameters → List ℕ → ℕ → ℕ → List Block → List Block → List Block
    → List Block → List Block → Type 0
WorksSegment a h g l oldest middle newest old new =
    IsReady a h g l oldest middle newest old → HoldsSegment a h g l new

-- a lane's blocks of a slice
abbrev pub own_blocks : Parameters → ℕ → List Block → List Block
own_blocks a l blocks = take (segment_len a) (drop (l * segment_len a) blocks)

-- the blocks over which segment g is worked, if `fresh` is what the four slices have at the start,
-- and `worked g` what the slice of segment g has once it has been worked in each lane
abbrev pub blocks_before : (ℕ → List Block) → (ℕ → List Block) → ℕ → List Block
blocks_before fresh worked g = if nat_lt g 4 then fresh g else worked (g - 4)

-- a run that is worked segment by segment. The first slice begins with the first two blocks of each
-- lane. Each segment is worked once, after the three slices before it, over its own blocks
pub record IsRun (a : Parameters) (h : List ℕ) (fresh worked : ℕ → List Block) : Type 0 where
  pub begun : HoldsFirstBlocks a h a.lanes (fresh 0)
  pub each : (g l : ℕ) → g < 4 * a.passes → l < a.lanes
      → WorksSegment a h g l (worked (g - 3)) (worked (g - 2)) (worked (g - 1))
      (own_blocks a l (blocks_before fresh worked g)) (own_blocks a l (worked g))
