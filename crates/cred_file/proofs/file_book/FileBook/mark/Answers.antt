use Rattle.std.proofs.Common.{◌≡◌, ◌⊎◌, is_some, sym, ap, subst, rules, ◌∙◌}
use Rattle.std.specs.FinMap as fin
use Rattle.sqlite.specs.Held.{state}
use Rattle.cred_file.specs.declared.fault.Attempt.TheVariants.{Mark as Marks_of}
use Rattle.cred_file.specs.Cells.{cell, cells_of, mark_at, marked, marking}
use Rattle.cred_file.specs.{Changes.after_attempt, Keeps.LeavesOnly}
use Rattle.cred_file.proofs.CellLaws.{cells_mark, has_cell, marking_here}
use Rattle.cred_file.specs.Kept.{cells}
use Rattle.cred_file.proofs.Keeping.{keeps_done, keeps_lost, fits, len_old}
use Rattle.cred_file.proofs.file_book.FileBook.mark.Goals as goal

pub invariant_of-self-in-Ok-write_row : goal.invariant_of-self-in-Ok-write_row
invariant_of-self-in-Ok-write_row g c =
    let book = c.self.inside.book in
    let marks = mark_at c.self.inside.marks in
    let cells = cells_of book marks in
    let old = c.self.inside.conn in
    let name = c.args.name.now in
    let it = cell c.in-Ok.stored c.args.mark in
    let got = c.in-Ok.ensures in
    let there = has_cell marks book name ∙ ap is_some got in
    let is = ap (cells_of book) (c.set.ensures.marks ∙ ap (λ m. marked m name c.args.mark) c.in-Ok-hold.ensures.same) ∙ cells_mark book marks name c.args.mark c.in-Ok.stored got in
    keeps_done g.S.Store old c.write_row.new.conn cells _ c.self.invariant c.if-is_some.ensures c.in-Ok-write_row.ensures.clean _ (fin.insert cells name it) is
    (len_old cells name it there (fits _ c.self.invariant c.if-is_some.ensures)) (λ clean was. c.in-Ok-write_row.ensures.done clean cells there was)

pub invariant_of-self-in-Err-write_row : goal.invariant_of-self-in-Err-write_row
invariant_of-self-in-Err-write_row g c =
    let book = c.self.inside.book in
    let marks = mark_at c.self.inside.marks in
    let cells = cells_of book marks in
    let old = c.self.inside.conn in
    let name = c.args.name.now in
    let there = has_cell marks book name ∙ ap is_some c.in-Ok.ensures in
    keeps_lost g.S.Store old c.write_row.new.conn cells _ c.self.invariant c.if-is_some.ensures c.in-Err-write_row.ensures.clean _ cells (ap (cells_of book) c.in-Ok-hold.ensures.same) _
    (record { error = c.in-Err-write_row.error; attempt = Marks_of name c.args.mark }) c.new.ensures
    (len_old cells name _ there (fits _ c.self.invariant c.if-is_some.ensures)) (λ clean was.
    subst (λ it. LeavesOnly (state g.S.Store c.write_row.new.conn) (λ b. (b ≡ cells) ⊎ (b ≡ fin.insert cells name it))) (sym (marking_here marks book name c.in-Ok.stored c.args.mark c.in-Ok.ensures))
    (c.in-Err-write_row.ensures.left clean cells there was))

pub returns-in-Ok-write_row-clause-remembers : goal.returns-in-Ok-write_row-clause-remembers
returns-in-Ok-write_row-clause-remembers g c =
    let book = c.self.inside.book in
    let marks = mark_at c.self.inside.marks in
    let name = c.args.name.now in
    let got = c.in-Ok.ensures in
    let is = ap (cells_of book) (c.set.ensures.marks ∙ ap (λ m. marked m name c.args.mark) c.in-Ok-hold.ensures.same) ∙ cells_mark book marks name c.args.mark c.in-Ok.stored got
    ∙ ap (fin.insert (cells_of book marks) name) (sym (marking_here marks book name c.in-Ok.stored c.args.mark got)) in
    record {
      made = is ∙ ap (λ k. after_attempt (cells k) (Marks_of name c.args.mark)) c.self.view_is;
      written = search rules;
      loses = search rules;
    }

pub returns-clause-remembers : goal.returns-clause-remembers
returns-clause-remembers g c =
    let it = ap (λ k. marking (cells k) c.args.name.now c.args.mark) (sym c.self.view_is) ∙ marking_here (mark_at c.self.inside.marks) c.self.inside.book c.args.name.now c.in-Ok.stored c.args.mark c.in-Ok.ensures in
    record {
      made = ap (cells_of c.self.inside.book) c.in-Ok-hold.ensures.same ∙ ap (λ k. cells k) c.self.view_is;
      written = search rules;
      loses = rw it (search rules);
    }
