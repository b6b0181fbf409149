use Rattle.std.proofs.{Common.◌≡◌, Common.length, Common.vec_len, Common.arith, lemmas.List.with_items_is}
use Rattle.cred_argon.proofs.Working.{own_extended}
use Rattle.cred_argon.proofs.segment.work_column.Goals as goal

pub returns : goal.returns
returns c start s working =
    let shared = c.args.shared.now in
    let same_length : length c.work_offset.new.blocks ≡ vec_len c.extend.new.blocks = omega (arith, c.deref_mut.ensures.len) in
    record {
      lane = working.lane;
      length_is = working.length_is;
      some = working.some;
      begun = omega (arith, working.begun);
      inside = omega (arith, working.length_is, c.requires.offset);
      room = omega (arith, working.room, c.extend.ensures.capacity);
      first = λ e. omega (arith, working.first e, c.extend.ensures.first e);
      later = λ e. omega (arith, working.later e, c.extend.ensures.later e);
      kept = c.refresh.ensures.keeps working.kept;
      own = λ h held begun. rw (with_items_is c.extend.new.blocks c.work_offset.new.blocks same_length)
          (c.work_offset.ensures h held (c.refresh.ensures.here working.kept)
          (rw c.deref_mut.ensures.value (own_extended shared start c.args.segment.now c.args.addresses.now s c.args.offset h
          c.extend.new.blocks.items working c.extend.ensures.items (working.own h held begun))));
    }
