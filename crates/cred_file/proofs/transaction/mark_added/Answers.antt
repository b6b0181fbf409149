use Rattle.std.proofs.Common.{◌≡◌, ap, rules, subst, sym, ◌∙◌}
use Rattle.cred_file.specs.{Cells.is_marked, Cells.mark_at, Cells.marked, Transactions.added_mark}
use Rattle.cred_file.proofs.{Joined.AreLeft, Joined.all_left, Joined.still_left, Marked.room_given}
use Rattle.cred_file.proofs.SoFar.{all_so_far, none_so_far, one_marked, so_far}
use Rattle.cred_file.proofs.transaction.mark_added.Goals as goal

pub loop-name-init : goal.loop-name-init
loop-name-init c =
    let f = added_mark c.args.given.now in
    record {
      are = subst (AreLeft c.args.added.now) (search rules) (all_left c.args.added.now);
      so = subst (λ rest. mark_at c.args.marks.now ≡ so_far f (mark_at c.args.marks.now) c.args.added.now rest) (search rules) (sym (none_so_far f (mark_at c.args.marks.now) c.args.added.now));
      room = c.requires;
    }

pub set-requires : goal.set-requires
set-requires c is = room_given c.loop-name.marks c.args.given.now c.in-Some.name.now c.loop-name.invariant.room (ap is_marked (sym c.at-mark.ensures) ∙ is)

pub loop-name-preserved : goal.loop-name-preserved
loop-name-preserved c =
    let was = c.loop-name.invariant in
    record {
      are = still_left c.args.added.now _ _ _ (subst (AreLeft c.args.added.now) c.in-Some.ensures.steps was.are);
      so = one_marked (added_mark c.args.given.now) (mark_at c.args.marks.now) c.args.added.now _ _ _ _ _ _ was.are was.so c.in-Some.ensures.steps
          (c.set.ensures.marks ∙ ap (marked (mark_at c.loop-name.marks) c.in-Some.name.now) c.at-mark.ensures);
      room = λ q has. c.set.ensures.room q (was.room q has);
    }

pub returns-clause-marks : goal.returns-clause-marks
returns-clause-marks c = c.loop-name.invariant.so ∙ all_so_far (added_mark c.args.given.now) (mark_at c.args.marks.now) _ _ c.in-None.ensures.steps.0
