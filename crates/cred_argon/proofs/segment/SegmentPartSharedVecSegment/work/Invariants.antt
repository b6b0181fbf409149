use Rattle.cred_argon.specs.SegmentWork.{IsWorking}
use Rattle.cred_argon.proofs.segment.SegmentPartSharedVecSegment.work.Given as goal

abbrev pub invariant-columns : goal.invariant-columns
invariant-columns l = IsWorking l.shared l.initial.self l.self l.addresses l.segment_len l.offset
