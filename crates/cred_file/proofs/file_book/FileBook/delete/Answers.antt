use Rattle.std.proofs.Common.{refl, sym, ap, rules, ◌∙◌}
use Rattle.std.specs.FinMap as fin
use Rattle.cred_file.specs.declared.fault.Attempt.TheVariants.{Delete}
use Rattle.cred_file.specs.Cells.{cells_of, mark_at, unmarked}
use Rattle.cred_file.specs.{Changes.after_attempt}
use Rattle.cred_file.proofs.CellLaws.{cells_less, has_cell}
use Rattle.cred_file.specs.Kept.{cells}
use Rattle.cred_file.proofs.Keeping.{keeps_done, keeps_lost, fits}
use Rattle.cred_file.proofs.Removing.{len_less}
use Rattle.cred_file.proofs.file_book.FileBook.delete.Goals as goal

pub invariant_of-self : goal.invariant_of-self
invariant_of-self g c =
    let book = c.self.inside.book in
    let marks = mark_at c.self.inside.marks in
    let cells = cells_of book marks in
    let old = c.self.inside.conn in
    let name = c.args.name.now in
    let there = has_cell marks book name ∙ sym c.if-not-contains.ensures in
    let is = (λ i. cells_of (c.remove.ensures i) (c.forget.ensures i)) ∙ cells_less book marks name unmarked in
    keeps_done g.S.Store old c.delete_row.new.conn cells _ c.self.invariant c.if-is_some.ensures c.in-Ok.ensures.clean _ (fin.remove cells name) is
    (len_less cells name (fits _ c.self.invariant c.if-is_some.ensures)) (λ clean was. c.in-Ok.ensures.done clean cells there was)

pub invariant_of-self-in-Err : goal.invariant_of-self-in-Err
invariant_of-self-in-Err g c =
    let book = c.self.inside.book in
    let marks = mark_at c.self.inside.marks in
    let cells = cells_of book marks in
    let old = c.self.inside.conn in
    let name = c.args.name.now in
    let there = has_cell marks book name ∙ sym c.if-not-contains.ensures in
    keeps_lost g.S.Store old c.delete_row.new.conn cells _ c.self.invariant c.if-is_some.ensures c.in-Err.ensures.clean _ cells refl _ (record { error = c.in-Err.error; attempt = Delete name }) c.new.ensures
    (len_less cells name (fits _ c.self.invariant c.if-is_some.ensures)) (λ clean was. c.in-Err.ensures.left clean cells there was)

pub returns-in-Ok-clause-remembers : goal.returns-in-Ok-clause-remembers
returns-in-Ok-clause-remembers g c =
    let is = (λ i. cells_of (c.remove.ensures i) (c.forget.ensures i)) ∙ cells_less c.self.inside.book (mark_at c.self.inside.marks) c.args.name.now unmarked in
    record {
      made = is ∙ ap (λ k. after_attempt (cells k) (Delete c.args.name.now)) c.self.view_is;
      written = search rules;
      loses = search rules;
    }
