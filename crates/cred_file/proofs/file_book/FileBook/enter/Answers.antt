use Rattle.std.proofs.Common.{◌≡◌, ◌⊎◌, ◌<◌, sym, ap, subst, rules, ◌∙◌}
use Rattle.std.specs.FinMap as fin
use Rattle.sqlite.specs.Held.{state}
use Rattle.cred_book.specs.Accounts.{register_capacity}
use Rattle.cred_book.proofs.Rows.{remove_again}
use Rattle.cred_file.specs.declared.fault.Attempt.TheVariants.{Put}
use Rattle.cred_file.specs.Cells.{cell, cells_of, mark_at, unmarked}
use Rattle.cred_file.specs.{Changes.after_attempt, Keeps.LeavesOnly}
use Rattle.cred_file.proofs.CellLaws.{cells_put, has_cell, len_cells, renewal_absent}
use Rattle.cred_file.specs.Kept.{cells}
use Rattle.cred_file.proofs.Keeping.{keeps_done, keeps_lost, len_new}
use Rattle.cred_file.proofs.file_book.FileBook.enter.Goals as goal
use Rattle.std.proofs.Common.{false}

pub invariant_of-self-in-Ok-write_row : goal.invariant_of-self-in-Ok-write_row
invariant_of-self-in-Ok-write_row g c =
    let book = c.self.inside.book in
    let marks = mark_at c.self.inside.marks in
    let cells = cells_of book marks in
    let old = c.self.inside.conn in
    let name = c.args.name in
    let entered = c.in-Ok-enter.ensures.done in
    let absent = has_cell marks book name ∙ entered.0 in
    let room = subst (λ n. n < register_capacity) (sym (len_cells marks book)) entered.1 in
    let it = cell c.args.stored c.none-mark.result in
    let is = (λ i. cells_of (entered.2 i) (c.forget.ensures i)) ∙ cells_put book marks name unmarked c.args.stored ∙ ap (λ m. fin.insert cells name (cell c.args.stored m)) (sym c.none-mark.ensures) in
    keeps_done g.S.Store old c.write_row.new.conn cells _ c.self.invariant c.if-is_some.ensures c.in-Ok-write_row.ensures.clean _ (fin.insert cells name it) is
    (len_new cells name it absent room) (λ clean was. c.in-Ok-write_row.ensures.done clean cells absent was)

pub returns-in-Ok-write_row-clause-remembers : goal.returns-in-Ok-write_row-clause-remembers
returns-in-Ok-write_row-clause-remembers g c =
    let book = c.self.inside.book in
    let marks = mark_at c.self.inside.marks in
    let name = c.args.name in
    let entered = c.in-Ok-enter.ensures.done in
    let is = (λ i. cells_of (entered.2 i) (c.forget.ensures i)) ∙ cells_put book marks name unmarked c.args.stored ∙ ap (fin.insert (cells_of book marks) name) (sym (renewal_absent marks book name c.args.stored entered.0)) in
    record {
      made = is ∙ ap (λ k. after_attempt (cells k) (Put name c.args.stored)) c.self.view_is;
      written = search rules;
      loses = search rules;
    }

pub returns-clause-remembers : goal.returns-clause-remembers
returns-clause-remembers g c =
    let entered = c.in-Ok-enter.ensures.done in
    let back = c.remove.ensures ∙ ap (λ b. fin.remove b c.args.name) entered.2 ∙ remove_again c.self.inside.book c.args.name c.args.stored entered.0 in
    record {
      made = ap (λ b. cells_of b (mark_at c.self.inside.marks)) back ∙ ap (λ k. cells k) c.self.view_is;
      written = search rules;
      loses = search rules;
    }

pub invariant_of-self-in-Err-write_row : goal.invariant_of-self-in-Err-write_row
invariant_of-self-in-Err-write_row g c =
    let book = c.self.inside.book in
    let marks = mark_at c.self.inside.marks in
    let cells = cells_of book marks in
    let old = c.self.inside.conn in
    let name = c.args.name in
    let entered = c.in-Ok-enter.ensures.done in
    let absent = has_cell marks book name ∙ entered.0 in
    let room = subst (λ n. n < register_capacity) (sym (len_cells marks book)) entered.1 in
    let back = c.remove.ensures ∙ ap (λ b. fin.remove b name) entered.2 ∙ remove_again book name c.args.stored entered.0 in
    keeps_lost g.S.Store old c.write_row.new.conn cells _ c.self.invariant c.if-is_some.ensures c.in-Err-write_row.ensures.clean _ cells (ap (λ b. cells_of b marks) back) _
    (record { error = c.in-Err-write_row.error; attempt = Put name c.args.stored }) c.put.ensures
    (len_new cells name _ absent room) (λ clean was.
    subst (λ it. LeavesOnly (state g.S.Store c.write_row.new.conn) (λ b. (b ≡ cells) ⊎ (b ≡ fin.insert cells name it))) (ap (cell c.args.stored) c.none-mark.ensures ∙ sym (renewal_absent marks book name c.args.stored entered.0))
    (c.in-Err-write_row.ensures.left clean cells absent was))

pub returns-clause-done : goal.returns-clause-done
returns-clause-done g c =
    let entered = c.in-Ok-enter.ensures.done in
    let is = ap (λ v. v.book) c.self.view_is in (
      subst (λ b. fin.contains_key b c.args.name ≡ false) is entered.0,
      subst (λ b. fin.len b < register_capacity) is entered.1,
      c.remove.ensures ∙ ap (λ b. fin.remove b c.args.name) entered.2 ∙ remove_again c.self.inside.book c.args.name c.args.stored entered.0 ∙ is,
    )
