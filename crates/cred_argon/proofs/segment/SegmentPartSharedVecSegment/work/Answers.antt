use Rattle.cred_argon.proofs.segment.SegmentPartSharedVecSegment.work.Goals as goal

pub columns-preserved : goal.columns-preserved
columns-preserved c = c.work_column.ensures _ _ c.columns.invariant
