use Rattle.std.proofs.Common.{◌≡◌, ℕ, ◌+◌, ◌*◌, ◌<◌, ◌≤◌, length, slice_index_or}
use Rattle.cred_argon.specs.{declared.segment.Segment.Segment, SegmentWork.Works}
use Rattle.cred_argon.proofs.interleaved.InterleavedCrewSharedVecSegmentSegment.work_each.Given as goal

-- the parts before 2 * i are worked, and the others are as they were
abbrev pub invariant-pairs : goal.invariant-pairs
invariant-pairs g l =
    (length l.parts ≡ length l.fn.parts) × (2 * l.i-end ≤ length l.fn.parts + 1) × (length l.fn.parts ≤ 2 * l.i-end)
    × ((j : ℕ) (d : Segment) → j < 2 * l.i → j < length l.fn.parts
    → Works l.shared (slice_index_or l.fn.parts j d) (slice_index_or l.parts j d))
    × ((j : ℕ) (d : Segment) → 2 * l.i ≤ j → slice_index_or l.parts j d ≡ slice_index_or l.fn.parts j d)
