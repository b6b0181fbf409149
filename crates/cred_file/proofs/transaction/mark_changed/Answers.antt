use Rattle.std.proofs.Common.{◌≡◌, ap, rules, subst, sym, ◌∙◌}
use Rattle.cred_file.specs.{Cells.is_marked, Cells.mark_at, Cells.marked, Cells.renewed_with, Transactions.changed_mark}
use Rattle.cred_file.proofs.{Joined.AreLeft, Joined.all_left, Joined.still_left, Marked.room_changed}
use Rattle.cred_file.proofs.SoFar.{all_so_far, none_so_far, one_marked, so_far, still_so}
use Rattle.cred_file.proofs.transaction.mark_changed.Goals as goal

pub loop-name-init : goal.loop-name-init
loop-name-init c =
    let f = changed_mark c.args.given.now in
    record {
      are = subst (AreLeft c.args.changed.now) (search rules) (all_left c.args.changed.now);
      so = subst (λ rest. mark_at c.args.marks.now ≡ so_far f (mark_at c.args.marks.now) c.args.changed.now rest) (search rules) (sym (none_so_far f (mark_at c.args.marks.now) c.args.changed.now));
      room = c.requires;
    }

pub set-requires : goal.set-requires
set-requires c is = room_changed c.loop-name.marks c.args.given.now c.in-Some.name.now c.loop-name.invariant.room (ap is_marked (sym (c.renewed_with-mark.ensures ∙ (λ i. renewed_with (c.at-in-loop-name.ensures i) (c.at.ensures i)))) ∙ is)

pub loop-name-preserved : goal.loop-name-preserved
loop-name-preserved c =
    let was = c.loop-name.invariant in
    record {
      are = still_left c.args.changed.now _ _ _ (subst (AreLeft c.args.changed.now) c.in-Some.ensures.steps was.are);
      so = one_marked (changed_mark c.args.given.now) (mark_at c.args.marks.now) c.args.changed.now _ _ _ _ _ _ was.are was.so c.in-Some.ensures.steps
          (c.set.ensures.marks ∙ ap (marked (mark_at c.loop-name.marks) c.in-Some.name.now) ((c.renewed_with-mark.ensures ∙ (λ i. renewed_with (c.at-in-loop-name.ensures i) (c.at.ensures i))) ∙ ap (λ m. renewed_with (mark_at c.args.given.now c.in-Some.name.now) m)
          (ap (λ n. n c.in-Some.name.now) was.so ∙ still_so (changed_mark c.args.given.now) (mark_at c.args.marks.now) c.args.changed.now _ _ _ _ c.in-Some.ensures.steps)));
      room = λ q has. c.set.ensures.room q (was.room q has);
    }

pub returns : goal.returns
returns c = c.loop-name.invariant.so ∙ all_so_far (changed_mark c.args.given.now) (mark_at c.args.marks.now) _ _ c.in-None.ensures.steps.0
