use Rattle.cred_argon.proofs.SliceWork.{own_begun, segment_worked}
use Rattle.cred_argon.proofs.lanes.work_lane.Goals as goal

pub returns : goal.returns
returns c h ready =
    let shared = c.shared_by_lanes-shared.ensures in
    rw (shared.params, shared.pass, shared.slice) at (segment_worked h c.shared_by_lanes-shared.result.turn c.args.index.lane c.work_segment.new.blocks (rw shared.slice c.requires.slice)
    (c.work_segment.ensures h
    (record {
      oldest = rw (shared.params, shared.pass, shared.slice, shared.oldest) ready.three_back;
      middle = rw (shared.params, shared.pass, shared.slice, shared.middle) ready.two_back;
      newest = rw (shared.params, shared.pass, shared.slice, shared.newest) ready.one_back;
    })
    (own_begun h c.shared_by_lanes-shared.result.turn c.args.index.lane c.args.own.now (rw shared.slice c.requires.slice)
    (rw (shared.params, shared.pass, shared.slice) ready.first) (rw (shared.params, shared.pass, shared.slice) ready.before))))
