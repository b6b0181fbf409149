use Rattle.cred_argon.specs.SegmentWork.{IsWorkingAll}
use Rattle.cred_argon.proofs.segment.work_segment.Given as goal

abbrev pub invariant-columns : goal.invariant-columns
invariant-columns g l = IsWorkingAll g.S.Slice.holds l.shared l.lane l.initial.blocks l.blocks l.addresses l.segment_len l.offset
