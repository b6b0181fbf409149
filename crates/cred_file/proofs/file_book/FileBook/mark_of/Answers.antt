use Rattle.std.proofs.Common.{ap, sym, ◌∙◌}
use Rattle.std.specs.FinMap as fin
use Rattle.cred_file.specs.Cells.{mark_at}
use Rattle.cred_file.proofs.CellLaws.{mark_absent, mark_here}
use Rattle.cred_file.proofs.file_book.FileBook.mark_of.Goals as goal

pub returns-then-not-contains : goal.returns-then-not-contains
returns-then-not-contains g c =
    let kept = c.args.self.now in
    c.none.ensures ∙ sym (mark_absent (mark_at kept.marks) kept.book c.args.name.now (ap (λ v. fin.contains_key v.book c.args.name.now) (sym c.self.view_is) ∙ sym c.if-not-contains.ensures))

pub returns : goal.returns
returns g c =
    let kept = c.args.self.now in
    c.at.ensures ∙ ap (λ v. mark_at v.marks c.args.name.now) c.self.view_is
    ∙ sym (mark_here (mark_at kept.marks) kept.book c.args.name.now (ap (λ v. fin.contains_key v.book c.args.name.now) (sym c.self.view_is) ∙ sym c.if-not-contains.ensures))
