use Rattle.std.proofs.Common.{◌≡◌}
use Rattle.cred_argon.specs.Parameters.{segment_len}
use Rattle.cred_argon.proofs.FirstBlocks.{HasFirstBlocks}
use Rattle.cred_argon.proofs.lanes.write_first_blocks.Given as goal

abbrev pub invariant-lanes : goal.invariant-lanes
invariant-lanes l = HasFirstBlocks l.hash (segment_len l.params) l.lane l.first × (l.lane-end ≡ l.params.lanes)
