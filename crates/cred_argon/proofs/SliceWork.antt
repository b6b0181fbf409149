-- A slice before and after its lanes are worked.
use Rattle.std.proofs.Common.{◌≡◌, ℕ, ◌<◌, ◌≤◌, ◌+◌, ◌-◌, ◌*◌, ◌/◌, ◌%◌, List, slice_index_or, arith}
use Rattle.std.proofs.lemmas.Bool.Decides.{nat_tests}
use Rattle.cred_argon.specs.{declared.block.Block.Block, declared.segment.Segment.Segment, declared.turn.Turn.Turn, declared.memory.Memory.Memory}
use Rattle.cred_argon.specs.{Parameters.segment_len, Places.place, Cells.cell}
use Rattle.cred_argon.specs.{Turns.number, Turns.first_offset, Turns.OwnHolds, SegmentWork.VecHolds}
use Rattle.cred_argon.specs.Segments.{SharedHolds, HoldsSegment}
use Rattle.cred_argon.specs.Slices.{MemoryHolds}

pub shared_begins : (h : List ℕ) (m : Memory) → MemoryHolds h (number m.shared.turn) m → SharedHolds VecHolds h m.shared
shared_begins h m held = record { oldest = held.at_oldest; middle = held.at_middle; newest = held.at_newest }

-- a segment that is to be worked, and has the first two blocks, or those of the pass before
pub own_begun : (h : List ℕ) (c : Turn) (l : ℕ) (blocks : List Block) → c.slice < 4
    → (number c ≡ 0 → (i : ℕ) (e : Block) → i < 2 → (slice_index_or blocks i e).0 ≡ cell c.params h (place 0 l i))
    → (4 ≤ number c → HoldsSegment c.params h (number c - 4) l blocks)
    → OwnHolds h c l (first_offset c) blocks
own_begun h c l blocks four begun before = record {
  new = λ i e below.
      let start : number c ≡ 0 = grind (arith, nat_tests, below) in
      let two : i < 2 = grind (arith, nat_tests, below) in
      let pass : c.pass ≡ 0 = omega (arith, start) in
      let slice : c.slice ≡ 0 = omega (arith, start) in
      let column : 0 * segment_len c.params + i ≡ i = omega arith in
      rw (pass, slice, column) (begun start i e two);
  old = λ i e above below later.
      let pass : (number c - 4) / 4 ≡ c.pass - 1 = omega (arith, four, later) in
      let slice : (number c - 4) % 4 ≡ c.slice = omega (arith, four, later) in
      rw (pass, slice) at (before (omega (arith, later)) i e below);
}

pub own_begins : (h : List ℕ) (m : Memory) → m.shared.turn.slice < 4 → MemoryHolds h (number m.shared.turn) m
    → (l : ℕ) (d : Segment) → l < m.shared.turn.params.lanes
    → OwnHolds h m.shared.turn l (first_offset m.shared.turn) (slice_index_or m.current.items l d).blocks.items
own_begins h m four held l d lane =
    own_begun h m.shared.turn l (slice_index_or m.current.items l d).blocks.items four
    (λ same i e below. held.begun same l d i e lane below) (λ late. held.at_current late l d lane)

pub segment_worked : (h : List ℕ) (c : Turn) (l : ℕ) (blocks : List Block) → c.slice < 4
    → OwnHolds h c l (segment_len c.params) blocks → HoldsSegment c.params h (number c) l blocks
segment_worked h c l blocks four own k d below =
    let pass : number c / 4 ≡ c.pass = omega (arith, four) in
    let slice : number c % 4 ≡ c.slice = omega (arith, four) in
    rw (pass, slice) (own.new k d below)
