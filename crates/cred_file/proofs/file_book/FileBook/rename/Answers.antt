use Rattle.std.proofs.Common.{◌≡◌, ◌<◌, is_some, ap, subst, rules, ◌∙◌}
use Rattle.std.specs.{Option.option_map}
use Rattle.std.specs.FinMap as fin
use Rattle.cred_book.specs.Accounts.{Accounts, register_capacity}
use Rattle.cred_book.proofs.Rows.{remove_again}
use Rattle.cred_file.specs.declared.fault.Attempt.TheVariants.{Rename}
use Rattle.cred_file.specs.Cells.{Cells, Marks, blank, cell, cells_of, mark_at, marked, unmarked}
use Rattle.cred_file.specs.{Changes.MayRename, Changes.after_attempt, Changes.moved, Changes.renamed}
use Rattle.cred_file.proofs.CellLaws.{cells_less, cells_put, get_cells, has_cell}
use Rattle.cred_file.specs.Kept.{cells as cells_in}
use Rattle.cred_file.proofs.Keeping.{keeps_done, keeps_lost, fits}
use Rattle.cred_file.proofs.Removing.{absent_less, len_moved, moved_is, renamed_is}
use Rattle.cred_file.proofs.file_book.FileBook.rename.Goals as goal

pub invariant_of-self-in-Ok-rename_row : goal.invariant_of-self-in-Ok-rename_row
invariant_of-self-in-Ok-rename_row g c =
    let book = c.self.inside.book in
    let marks = mark_at c.self.inside.marks in
    let cells = cells_of book marks in
    let old = c.self.inside.conn in
    let name = c.args.name.now in
    let other = c.args.other.now in
    let got = c.in-Ok.ensures in
    let there = has_cell marks book name ∙ ap is_some got in
    let absent = has_cell marks book other ∙ c.in-Ok-enter.ensures.done.0 in
    let same = c.in-Ok-hold.ensures.same in
    let set = c.set.ensures.marks ∙ ap (λ m. marked m other c.at-mark.result) same ∙ ap (marked marks other) (c.at-mark.ensures ∙ ap (λ m. m name) same) in
    let after = c.forget.ensures ∙ ap (λ m. marked m name unmarked) set in
    let less = c.remove.ensures ∙ ap (λ (b : Accounts). fin.remove b name) c.in-Ok-enter.ensures.done.2 in
    let is = (λ i. cells_of (less i) (after i)) ∙ cells_less (fin.insert book other c.in-Ok.stored) (marked marks other (marks name)) name unmarked
    ∙ ap (λ (b : Cells). fin.remove b name) (cells_put book marks other (marks name) c.in-Ok.stored)
    ∙ moved_is cells blank name other (cell c.in-Ok.stored (marks name)) (get_cells marks book name ∙ ap (option_map (λ v. cell v (marks name))) got) absent in
    keeps_done g.S.Store old c.rename_row.new.conn cells _ c.self.invariant c.if-is_some.ensures c.in-Ok-rename_row.ensures.clean _ (moved cells name other) is
    (len_moved cells blank name other there absent (fits _ c.self.invariant c.if-is_some.ensures)) (λ clean was. c.in-Ok-rename_row.ensures.done clean cells (there, absent_less cells name other absent) was)

pub invariant_of-self-in-Err-rename_row : goal.invariant_of-self-in-Err-rename_row
invariant_of-self-in-Err-rename_row g c =
    let book = c.self.inside.book in
    let marks = mark_at c.self.inside.marks in
    let cells = cells_of book marks in
    let old = c.self.inside.conn in
    let name = c.args.name.now in
    let other = c.args.other.now in
    let there = has_cell marks book name ∙ ap is_some c.in-Ok.ensures in
    let absent = has_cell marks book other ∙ c.in-Ok-enter.ensures.done.0 in
    let back = c.remove-in-Err-rename_row.ensures ∙ ap (λ (b : Accounts). fin.remove b other) c.in-Ok-enter.ensures.done.2 ∙ remove_again book other c.in-Ok.stored c.in-Ok-enter.ensures.done.0 in
    keeps_lost g.S.Store old c.rename_row.new.conn cells _ c.self.invariant c.if-is_some.ensures c.in-Err-rename_row.ensures.clean _ cells (λ i. cells_of (back i) (c.in-Ok-hold.ensures.same i)) _
    (record { error = c.in-Err-rename_row.error; attempt = Rename name other }) c.new.ensures
    (len_moved cells blank name other there absent (fits _ c.self.invariant c.if-is_some.ensures)) (λ clean was. c.in-Err-rename_row.ensures.left clean cells (there, absent_less cells name other absent) was)

pub returns-in-Ok-rename_row-clause-done : goal.returns-in-Ok-rename_row-clause-done
returns-in-Ok-rename_row-clause-done g c =
    let book = c.self.inside.book in
    let name = c.args.name.now in
    let other = c.args.other.now in
    let absent = c.in-Ok-enter.ensures.done.0 in
    let is = c.remove.ensures ∙ ap (λ (b : Accounts). fin.remove b name) c.in-Ok-enter.ensures.done.2 ∙ renamed_is book name other c.in-Ok.stored c.in-Ok.ensures absent in
    subst (λ (b : Accounts). MayRename b name other × (c.remove.new.self ≡ renamed b name other)) (ap (λ v. v.book) c.self.view_is) ((ap is_some c.in-Ok.ensures, absent), is)

pub returns-in-Err-rename_row-clause-done : goal.returns-in-Err-rename_row-clause-done
returns-in-Err-rename_row-clause-done g c =
    let book = c.self.inside.book in
    let other = c.args.other.now in
    let entered = c.in-Ok-enter.ensures.done in
    let back = c.remove-in-Err-rename_row.ensures ∙ ap (λ (b : Accounts). fin.remove b other) entered.2 ∙ remove_again book other c.in-Ok.stored entered.0 in
    subst (λ (b : Accounts). MayRename b c.args.name.now other × (fin.len b < register_capacity) × (c.remove-in-Err-rename_row.new.self ≡ b)) (ap (λ v. v.book) c.self.view_is) ((ap is_some c.in-Ok.ensures, entered.0), entered.1, back)

pub returns-in-Ok-rename_row-clause-marks : goal.returns-in-Ok-rename_row-clause-marks
returns-in-Ok-rename_row-clause-marks g c =
    let name = c.args.name.now in
    let other = c.args.other.now in
    let same = c.in-Ok-hold.ensures.same in
    let marks = mark_at c.self.inside.marks in
    let set = c.set.ensures.marks ∙ ap (λ m. marked m other c.at-mark.result) same ∙ ap (marked marks other) (c.at-mark.ensures ∙ ap (λ m. m name) same) in
    c.forget.ensures ∙ ap (λ m. marked m name unmarked) set
    ∙ ap (λ (m : Marks). marked (marked (mark_at m) other (mark_at m name)) name unmarked) (ap (λ v. v.marks) c.self.view_is)

pub returns-in-Ok-rename_row-clause-remembers : goal.returns-in-Ok-rename_row-clause-remembers
returns-in-Ok-rename_row-clause-remembers g c =
    let book = c.self.inside.book in
    let marks = mark_at c.self.inside.marks in
    let cells = cells_of book marks in
    let name = c.args.name.now in
    let other = c.args.other.now in
    let got = c.in-Ok.ensures in
    let absent = has_cell marks book other ∙ c.in-Ok-enter.ensures.done.0 in
    let same = c.in-Ok-hold.ensures.same in
    let set = c.set.ensures.marks ∙ ap (λ m. marked m other c.at-mark.result) same ∙ ap (marked marks other) (c.at-mark.ensures ∙ ap (λ m. m name) same) in
    let after = c.forget.ensures ∙ ap (λ m. marked m name unmarked) set in
    let less = c.remove.ensures ∙ ap (λ (b : Accounts). fin.remove b name) c.in-Ok-enter.ensures.done.2 in
    let is = (λ i. cells_of (less i) (after i)) ∙ cells_less (fin.insert book other c.in-Ok.stored) (marked marks other (marks name)) name unmarked
    ∙ ap (λ (b : Cells). fin.remove b name) (cells_put book marks other (marks name) c.in-Ok.stored)
    ∙ moved_is cells blank name other (cell c.in-Ok.stored (marks name)) (get_cells marks book name ∙ ap (option_map (λ v. cell v (marks name))) got) absent in
    record {
      made = is ∙ ap (λ k. after_attempt (cells_in k) (Rename name other)) c.self.view_is;
      written = search rules;
      loses = search rules;
    }

pub returns-in-Err-rename_row-clause-remembers : goal.returns-in-Err-rename_row-clause-remembers
returns-in-Err-rename_row-clause-remembers g c =
    let book = c.self.inside.book in
    let other = c.args.other.now in
    let back = c.remove-in-Err-rename_row.ensures ∙ ap (λ (b : Accounts). fin.remove b other) c.in-Ok-enter.ensures.done.2 ∙ remove_again book other c.in-Ok.stored c.in-Ok-enter.ensures.done.0 in
    record {
      made = (λ i. cells_of (back i) (c.in-Ok-hold.ensures.same i)) ∙ ap (λ k. cells_in k) c.self.view_is;
      written = search rules;
      loses = search rules;
    }
