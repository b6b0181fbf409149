use Rattle.cred_argon.proofs.segment.work_interleaved.Goals as goal

pub columns-preserved : goal.columns-preserved
columns-preserved c = (
  c.work_column.ensures _ _ c.columns.invariant.0,
  c.work_column-in-columns.ensures _ _ c.columns.invariant.1,
)
