use Rattle.std.proofs.Common.{ap, sym, ◌∙◌}
use Rattle.cred_file.specs.Cells.{mark_at, marked, renewed}
use Rattle.cred_file.proofs.Marked.{marked_same, none_at}
use Rattle.cred_file.proofs.marks.Marks.renew.Goals as goal

pub returns-then-not-holds : goal.returns-then-not-holds
returns-then-not-holds c =
    let none = none_at c.args.self.now c.args.name.now (sym c.if-not-holds.ensures) in
    sym (marked_same (mark_at c.args.self.now) c.args.name.now _ (none ∙ sym (ap renewed none)))

pub returns : goal.returns
returns c = c.set.ensures.marks ∙ ap (marked (mark_at c.args.self.now) c.args.name.now) (c.renewed-mark.ensures ∙ ap renewed c.at.ensures)
