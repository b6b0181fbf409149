use Rattle.std.proofs.{Common.◌∙◌, Common.◌+◌, Common.take, Common.drop, Common.ap, Common.arith, lemmas.List.take_at, lemmas.List.drop_at}
use Rattle.cred_argon.specs.{Parameters.segment_len}
use Rattle.cred_argon.proofs.SliceWork.{own_begun, segment_worked}
use Rattle.cred_argon.proofs.lanes.work_two_lanes.Goals as goal

pub returns-clause-first : goal.returns-clause-first
returns-clause-first c h ready =
    let shared = c.shared_by_lanes-shared.ensures in
    let s = segment_len c.args.params.now in
    let halves = c.split_at_mut-first in
    let old = ap (take s) halves.ensures.value ∙ take_at halves.result.0.now halves.result.1.now s (halves.ensures.front_len ∙ c.segment_len.ensures.value) in
    rw (take_at c.work_segments.new.first c.work_segments.new.second s (omega (arith, c.work_segments.auto.first, halves.ensures.front_len, c.segment_len.ensures.value)))
    (rw (shared.params, shared.pass, shared.slice) at (segment_worked h c.shared_by_lanes-shared.result.turn c.args.index.lane c.work_segments.new.first (rw shared.slice c.requires.slice)
    (c.work_segments.ensures.first h
    (record {
      oldest = rw (shared.params, shared.pass, shared.slice, shared.oldest) ready.three_back;
      middle = rw (shared.params, shared.pass, shared.slice, shared.middle) ready.two_back;
      newest = rw (shared.params, shared.pass, shared.slice, shared.newest) ready.one_back;
    })
    (own_begun h c.shared_by_lanes-shared.result.turn c.args.index.lane halves.result.0.now (rw shared.slice c.requires.slice)
    (rw (shared.params, shared.pass, shared.slice) (rw old at ready.first)) (rw (shared.params, shared.pass, shared.slice) (rw old at ready.before))))))

pub returns-clause-second : goal.returns-clause-second
returns-clause-second c h ready =
    let shared = c.shared_by_lanes-shared.ensures in
    let s = segment_len c.args.params.now in
    let halves = c.split_at_mut-first in
    let old = ap (drop s) halves.ensures.value ∙ drop_at halves.result.0.now halves.result.1.now s (halves.ensures.front_len ∙ c.segment_len.ensures.value) in
    rw (drop_at c.work_segments.new.first c.work_segments.new.second s (omega (arith, c.work_segments.auto.first, halves.ensures.front_len, c.segment_len.ensures.value)))
    (rw (shared.params, shared.pass, shared.slice) at (segment_worked h c.shared_by_lanes-shared.result.turn (c.args.index.lane + 1) c.work_segments.new.second (rw shared.slice c.requires.slice)
    (c.work_segments.ensures.second h
    (record {
      oldest = rw (shared.params, shared.pass, shared.slice, shared.oldest) ready.three_back;
      middle = rw (shared.params, shared.pass, shared.slice, shared.middle) ready.two_back;
      newest = rw (shared.params, shared.pass, shared.slice, shared.newest) ready.one_back;
    })
    (own_begun h c.shared_by_lanes-shared.result.turn (c.args.index.lane + 1) halves.result.1.now (rw shared.slice c.requires.slice)
    (rw (shared.params, shared.pass, shared.slice) (rw old at ready.first)) (rw (shared.params, shared.pass, shared.slice) (rw old at ready.before))))))
