use Rattle.std.proofs.Common.{◌≤◌, arith}
use Rattle.cred_argon.specs.Parameters.{segment_len}
use Rattle.cred_argon.proofs.Picks.{column_of}
use Rattle.cred_argon.proofs.reference_block.reference_from.Goals as goal

pub returns : goal.returns
returns c =
    let a = c.args.params.now in
    let some : 2 ≤ segment_len a = rw c.segment_len-segment_len.ensures.value at c.segment_len-segment_len.ensures.at_least in
    let both = column_of (segment_len a) a.lanes c.args.position.now c.args.j1 c.args.j2 some c.requires.computed c.requires.offset in
    record {
      lane = rw (c.lane_for-lane.ensures.value, c.lanes.ensures.value) both.1;
      column = rw (
        c.wrapped-column.ensures.value,
        c.picked.ensures.value,
        c.start-start.ensures.value,
        c.count-count.ensures,
        c.lane_for-lane.ensures.value,
        c.lanes.ensures.value,
        c.segment_len-segment_len.ensures.value,
      ) both.0;
      lane_below = omega arith;
      column_below = omega arith;
    }
