use Rattle.std.proofs.Common.{◌+◌}
use Rattle.cred_argon.specs.SegmentWork.{IsWorkingAll}
use Rattle.cred_argon.proofs.segment.work_segments.Given as goal

abbrev pub invariant-columns : goal.invariant-columns
invariant-columns g l =
    IsWorkingAll g.S.Slice.holds l.shared l.lane l.initial.first l.first l.of_first l.segment_len l.offset
    × IsWorkingAll g.S.Slice.holds l.shared (l.lane + 1) l.initial.second l.second l.of_second l.segment_len l.offset
