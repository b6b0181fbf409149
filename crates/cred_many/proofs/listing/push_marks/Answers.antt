use Rattle.std.proofs.Common.{sym, ap, not, ◌&&◌, ◌∷◌, ◌++◌, ◌∙◌}
use Rattle.std.specs.Ordering.{is_lt}
use Rattle.cred_book.specs.Names.{name_cmp}
use Rattle.cred_file.specs.{Cells.is_marked, Cells.mark_text, declared.marks.Mark.Mark}
use Rattle.cred_many.proofs.Listed.{all_marks_written, enough_marks, mark_skipped, mark_written}
use Rattle.cred_many.proofs.listing.push_marks.Goals as goal

pub returns-then-left-eq0 : goal.returns-then-left-eq0
returns-then-left-eq0 g c = enough_marks _ _ _ _ _ _ _ _ c.loop-name.invariant c.if-left-eq0.true

pub loop-name-preserved-then-is_listed : goal.loop-name-preserved-then-is_listed
loop-name-preserved-then-is_listed g c =
    mark_written _ _ _ _ _ _ _ _ c.loop-name.invariant _ _ _ _ c.in-Some.ensures.steps
    (ap (λ (m : Mark). is_marked m && not (is_lt (name_cmp c.in-Some.name.now c.args.from.now))) (sym c.mark_of-mark.ensures) ∙ sym c.if-is_listed.ensures) c.if-left-eq0.false
    (ap (λ (m : Mark). 32 ∷ c.in-Some.name.now ++ 58 ∷ mark_text m) c.mark_of-mark.ensures) c.in_ok-push_mark.ensures

pub loop-name-preserved : goal.loop-name-preserved
loop-name-preserved g c =
    mark_skipped _ _ _ _ _ _ _ _ c.loop-name.invariant _ _ c.in-Some.ensures.steps
    (ap (λ (m : Mark). is_marked m && not (is_lt (name_cmp c.in-Some.name.now c.args.from.now))) (sym c.mark_of-mark.ensures) ∙ sym c.if-is_listed.ensures)

pub returns : goal.returns
returns g c = all_marks_written _ _ _ _ _ _ _ _ c.loop-name.invariant c.in-None.ensures.steps.0
