-- The condition of the work on a lane's segment, and its effect.
use Rattle.std.specs.Prelude.{◌≡◌, ℕ, ◌<◌, ◌≤◌, List, Option, Vec, length, vec_len, vec_capacity}
use Rattle.cred_argon.specs.{declared.address.AddressBlock.AddressBlock, Addresses.KeepsAddresses}
use Rattle.cred_argon.specs.{declared.block.Block.Block, declared.segment.Segment.Segment, declared.segment.Shared.Shared, Parameters.Parameters, Parameters.segment_len}
use Rattle.cred_argon.specs.{Turns.OwnHolds, Turns.first_offset, Turns.begun_len, Segments.IsFull, Segments.HoldsSlice, Segments.IsShaped, Segments.SharedHolds}

-- a slice, as the vector of its segments, has all its blocks
abbrev pub VecIsFull : {A : Type 0} → Parameters → Vec Segment A → Type 0
VecIsFull a slice = IsFull a slice.items

abbrev pub VecHolds : {A : Type 0} → Parameters → List ℕ → ℕ → Vec Segment A → Type 0
VecHolds a h g slice = HoldsSlice a h g slice.items

-- a segment of a lane that is there, with room for its blocks
abbrev pub CanWork : {A : Type 0} → Shared (Vec Segment A) → Segment → Type 0
CanWork c p =
    IsShaped VecIsFull c × (p.lane < c.turn.params.lanes)
    × (segment_len c.turn.params ≤ vec_capacity p.blocks)
    × (vec_len p.blocks ≡ begun_len c.turn)

-- the segment comes to hold the cells of this pass, if it held those of the pass before
abbrev pub Works : {A : Type 0} → Shared (Vec Segment A) → Segment → Segment → Type 0
Works c p q =
    (vec_len q.blocks ≡ segment_len c.turn.params) × (q.lane ≡ p.lane)
    × (segment_len c.turn.params ≤ vec_capacity q.blocks)
    × ((h : List ℕ) → SharedHolds VecHolds h c
    → OwnHolds h c.turn p.lane (first_offset c.turn) p.blocks.items
    → OwnHolds h c.turn q.lane (segment_len c.turn.params) q.blocks.items)

-- a segment that has been worked up to column k of s, and what is at hand of its addresses
pub record IsWorking {A : Type 0} (c : Shared (Vec Segment A)) (start now : Segment)
    (addresses : Option AddressBlock) (s k : ℕ) : Type 0 where
  pub lane : now.lane ≡ start.lane
  pub length_is : s ≡ segment_len c.turn.params
  pub some : 2 ≤ s
  pub begun : first_offset c.turn ≤ k
  pub inside : k ≤ s
  pub room : s ≤ vec_capacity now.blocks
  pub first : c.turn.pass ≡ 0 → vec_len now.blocks ≡ k
  pub later : 0 < c.turn.pass → vec_len now.blocks ≡ s
  pub kept : KeepsAddresses c.turn now.lane addresses
  pub own : (h : List ℕ) → SharedHolds VecHolds h c
      → OwnHolds h c.turn start.lane (first_offset c.turn) start.blocks.items
      → OwnHolds h c.turn now.lane k now.blocks.items

-- likewise for lane l's segment, which has all its blocks
pub record IsWorkingAll {S : Type 0} (holds : Parameters → List ℕ → ℕ → S → Type 0) (c : Shared S)
    (l : ℕ) (start now : List Block) (addresses : Option AddressBlock) (s k : ℕ) : Type 0 where
  pub length_is : s ≡ segment_len c.turn.params
  pub some : 2 ≤ s
  pub begun : first_offset c.turn ≤ k
  pub inside : k ≤ s
  pub there : length now ≡ s
  pub kept : KeepsAddresses c.turn l addresses
  pub own : (h : List ℕ) → SharedHolds holds h c → OwnHolds h c.turn l (first_offset c.turn) start
      → OwnHolds h c.turn l k now
