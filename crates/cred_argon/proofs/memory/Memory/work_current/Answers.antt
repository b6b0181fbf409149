use Rattle.std.proofs.{Common.◌≡◌, Common.◌<◌, Common.length, Common.slice_index_or, Common.vec_len, Common.arith, lemmas.List.with_items_is}
use Rattle.cred_argon.proofs.SliceWork.{shared_begins, own_begins, segment_worked}
use Rattle.cred_argon.proofs.memory.Memory.work_current.Goals as goal

pub returns-clause-holds : goal.returns-clause-holds
returns-clause-holds g c h held l d lane =
    let memory = c.args.self.now in
    let same_length : length c.work_each.new.parts ≡ vec_len memory.current = omega (arith, c.deref_mut.ensures.len) in
    let inside : l < length memory.current.items = omega (arith, c.requires.shape.at_current.count, lane) in
    let works = rw c.deref_mut.ensures.value at (c.work_each.ensures l d) inside in
    let lane_is = c.requires.shape.at_current.lane l d lane in
    let after = works.3 h (shared_begins h memory held) (rw lane_is (own_begins h memory c.requires.slice held l d lane)) in
    rw (with_items_is memory.current c.work_each.new.parts same_length)
    (segment_worked h memory.shared.turn l (slice_index_or c.work_each.new.parts l d).blocks.items c.requires.slice (rw (works.1, lane_is) at after))
