use Rattle.std.proofs.Common.{◌<◌, ◌≤◌, ◌+◌, ◌*◌, length, sym, ◌∙◌, arith}
use Rattle.cred_argon.specs.Parameters.{segment_len}
use Rattle.cred_argon.proofs.{FirstBlocks.first_blocks_more, FirstCells.first_is}
use Rattle.cred_argon.proofs.lanes.write_first_blocks.Goals as goal

pub lanes-preserved : goal.lanes-preserved
lanes-preserved c =
    let start = c.segment_start-start.ensures in
    let room : c.lanes.lane * segment_len c.args.params.now + 1 < length c.lanes.first =
    omega (arith, start.value, start.inside, start.some, c.requires.room, c.lanes.auto.first) in
    let more = first_blocks_more c.args.hash.now (segment_len c.args.params.now) c.lanes.lane c.lanes.first c.first_block.result c.first_block-in-lanes.result
    start.some room c.first_block.ensures c.first_block-in-lanes.ensures c.lanes.invariant.0 in
    (rw (← start.value) at more, c.lanes.invariant.1)

pub returns : goal.returns
returns c l i d lane below =
    let a = c.args.params.now in
    let all : l < c.lanes.lane = omega (arith, lane, c.lanes.invariant.1, c.lanes-test.false) in
    let some : 2 ≤ segment_len a = c.lanes.invariant.0.some (omega (arith, all)) in
    c.lanes.invariant.0.first l i d all below ∙ sym (first_is a c.args.hash.now l i some lane below)
