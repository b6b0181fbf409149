use Rattle.cred_argon.specs.SegmentWork.{IsWorking}
use Rattle.cred_argon.proofs.segment.work_interleaved.Given as goal

abbrev pub invariant-columns : goal.invariant-columns
invariant-columns l =
    IsWorking l.shared l.initial.first l.first l.of_first l.segment_len l.offset
    × IsWorking l.shared l.initial.second l.second l.of_second l.segment_len l.offset
