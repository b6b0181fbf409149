use Rattle.cred_argon.proofs.segment.work_segment.Goals as goal

pub columns-preserved : goal.columns-preserved
columns-preserved g c = c.work_next.ensures c.args.blocks.now c.segment_len-segment_len.result c.columns.invariant
