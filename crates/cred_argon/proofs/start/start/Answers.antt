use Rattle.std.proofs.{Common.◌≡◌, Common.◌≤◌, Common.◌∙◌, Common.length, Common.vec_len, Common.sym, Common.arith, lemmas.List.with_items_is}
use Rattle.cred_argon.specs.Parameters.{segment_len}
use Rattle.cred_argon.proofs.FirstCells.{first_is}
use Rattle.cred_argon.proofs.start.start.Goals as goal

pub returns-clause-holds : goal.returns-clause-holds
returns-clause-holds c =
    let a = c.args.params.now in
    let some : 2 ≤ segment_len a = rw c.segment_len-segment_len.ensures.value at c.segment_len-segment_len.ensures.at_least in
    let same_length : length c.begin_segments.new.segments ≡ vec_len c.in_ok-current.current = omega (arith, c.deref_mut.ensures.len) in
    record {
      begun = λ _ l d i e lane below. rw (with_items_is c.in_ok-current.current c.begin_segments.new.segments same_length)
          (c.begin_segments.ensures.first l d i e lane below ∙ sym (first_is a c.args.hash.now l i some lane below));
      at_current = λ h. absurd (omega (arith, h));
      at_oldest = λ h. absurd (omega (arith, h));
      at_middle = λ h. absurd (omega (arith, h));
      at_newest = λ h. absurd (omega (arith, h));
    }
