use Rattle.cred_argon.proofs.segment.work_segments.Goals as goal

pub columns-preserved : goal.columns-preserved
columns-preserved g c = (
  c.work_next.ensures c.args.first.now c.segment_len-segment_len.result c.columns.invariant.0,
  c.work_next-in-columns.ensures c.args.second.now c.segment_len-segment_len.result c.columns.invariant.1,
)
