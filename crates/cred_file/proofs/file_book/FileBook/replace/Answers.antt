use Rattle.std.proofs.Common.{◌≡◌, ◌⊎◌, refl, sym, ap, subst, rules, ◌∙◌}
use Rattle.std.specs.FinMap as fin
use Rattle.sqlite.specs.Held.{state}
use Rattle.cred_file.specs.declared.fault.Attempt.TheVariants.{Put}
use Rattle.cred_file.specs.Cells.{Marks, cell, cells_of, mark_at, marked, renewed}
use Rattle.cred_file.specs.{Changes.after_attempt, Keeps.LeavesOnly}
use Rattle.cred_file.proofs.CellLaws.{cells_put, has_cell, renewal_here}
use Rattle.cred_file.specs.Kept.{cells}
use Rattle.cred_file.proofs.Keeping.{keeps_done, keeps_lost, fits, len_old}
use Rattle.cred_file.proofs.file_book.FileBook.replace.Goals as goal
use Rattle.std.proofs.Common.{true}

pub invariant_of-self : goal.invariant_of-self
invariant_of-self g c =
    let book = c.self.inside.book in
    let marks = mark_at c.self.inside.marks in
    let cells = cells_of book marks in
    let old = c.self.inside.conn in
    let name = c.args.name.now in
    let there = has_cell marks book name ∙ subst (λ b. fin.contains_key b name ≡ true) (sym (ap (λ v. v.book) c.self.view_is)) c.requires in
    let mark = c.renewed-mark.ensures ∙ ap renewed c.at.ensures in
    let put = (λ i. cells_of (c.replace.ensures i) (c.renew.ensures i)) ∙ cells_put book marks name (renewed (marks name)) c.args.stored in
    let is = put ∙ ap (λ m. fin.insert cells name (cell c.args.stored m)) (sym mark) in
    keeps_done g.S.Store old c.write_row.new.conn cells _ c.self.invariant c.if-is_some.ensures c.in-Ok-write_row.ensures.clean _ (fin.insert cells name (cell c.args.stored c.renewed-mark.result)) is
    (len_old cells name _ there (fits _ c.self.invariant c.if-is_some.ensures)) (λ clean was. c.in-Ok-write_row.ensures.done clean cells there was)

pub returns-in-Ok-write_row-clause-marks : goal.returns-in-Ok-write_row-clause-marks
returns-in-Ok-write_row-clause-marks g c =
    c.renew.ensures ∙ ap (λ (m : Marks). marked (mark_at m) c.args.name.now (renewed (mark_at m c.args.name.now))) (ap (λ v. v.marks) c.self.view_is)

pub invariant_of-self-in-Err : goal.invariant_of-self-in-Err
invariant_of-self-in-Err g c =
    let book = c.self.inside.book in
    let marks = mark_at c.self.inside.marks in
    let cells = cells_of book marks in
    let old = c.self.inside.conn in
    let name = c.args.name.now in
    let there = has_cell marks book name ∙ subst (λ b. fin.contains_key b name ≡ true) (sym (ap (λ v. v.book) c.self.view_is)) c.requires in
    keeps_lost g.S.Store old c.write_row.new.conn cells _ c.self.invariant c.if-is_some.ensures c.in-Err.ensures.clean _ cells refl _ (record { error = c.in-Err.error; attempt = Put name c.args.stored }) c.put.ensures
    (len_old cells name _ there (fits _ c.self.invariant c.if-is_some.ensures)) (λ clean was.
    subst (λ it. LeavesOnly (state g.S.Store c.write_row.new.conn) (λ b. (b ≡ cells) ⊎ (b ≡ fin.insert cells name it))) (ap (cell c.args.stored) (c.renewed-mark.ensures ∙ ap renewed c.at.ensures) ∙ sym (renewal_here marks book name c.args.stored (sym (has_cell marks book name) ∙ there)))
    (c.in-Err.ensures.left clean cells there was))

pub returns-in-Ok-write_row-clause-remembers : goal.returns-in-Ok-write_row-clause-remembers
returns-in-Ok-write_row-clause-remembers g c =
    let book = c.self.inside.book in
    let marks = mark_at c.self.inside.marks in
    let name = c.args.name.now in
    let there = subst (λ b. fin.contains_key b name ≡ true) (sym (ap (λ v. v.book) c.self.view_is)) c.requires in
    let put = (λ i. cells_of (c.replace.ensures i) (c.renew.ensures i)) ∙ cells_put book marks name (renewed (marks name)) c.args.stored ∙ ap (fin.insert (cells_of book marks) name) (sym (renewal_here marks book name c.args.stored there)) in
    record {
      made = put ∙ ap (λ k. after_attempt (cells k) (Put name c.args.stored)) c.self.view_is;
      written = search rules;
      loses = search rules;
    }

pub returns-clause-remembers : goal.returns-clause-remembers
returns-clause-remembers g c =
    let marks = mark_at c.args.self.now.marks in
    let mark = c.renewed-mark.ensures ∙ ap renewed c.at.ensures ∙ ap (λ (m : Marks). renewed (mark_at m c.args.name.now)) (ap (λ v. v.marks) c.self.view_is) in
    let it = renewal_here marks c.args.self.now.book c.args.name.now c.args.stored c.requires ∙ ap (cell c.args.stored) (sym mark) in
    record {
      made = ap (λ k. cells k) c.self.view_is;
      written = search rules;
      loses = rw it (search rules);
    }
