use Rattle.std.proofs.Common.{◌≡◌, ◌≤◌, true, rules, subst, sym, ◌∙◌}
use Rattle.cred_book.specs.Accounts.{register_capacity}
use Rattle.cred_file.specs.{Drafts.is_past, Table.Line}
use Rattle.cred_file.specs.Cells.{cell, cells_of, mark_at}
use Rattle.cred_file.proofs.CellLaws.{cells_put, has_cell, len_cells}
use Rattle.cred_file.proofs.reading.Draft.add.Goals as goal

pub returns-in_err-entry-clause-left_out : goal.returns-in_err-entry-clause-left_out
returns-in_err-entry-clause-left_out c = let why = c.in_err-entry.ensures.unread (cells_of c.args.self.now.book (mark_at c.args.self.now.marks)) c.args.self.now.last in search rules

pub returns-in-Ok-enter-clause-added : goal.returns-in-Ok-enter-clause-added
returns-in-Ok-enter-clause-added c =
    let e = c.in_ok-entry.entry in
    let book = c.args.self.now.book in
    let marks = mark_at c.args.self.now.marks in
    let entered = c.in-Ok-enter.ensures.done in
    let past : is_past c.args.self.now.last e.id ≡ true = search rules in
    record {
      line = record { id = e.id; name = e.name; stored = cell e.stored e.mark };
      says = c.in_ok-entry.ensures.says;
      past = past;
      new_name = has_cell marks book e.name ∙ entered.0;
      book_is = (λ i. cells_of (entered.2 i) (c.in-Ok.ensures i)) ∙ cells_put book marks e.name e.mark e.stored;
      next_is = search rules;
    }

pub returns-in-Err-Exists-clause-left_out : goal.returns-in-Err-Exists-clause-left_out
returns-in-Err-Exists-clause-left_out c =
    let e = c.in_ok-entry.entry in
    let line : Line = record { id = e.id; name = e.name; stored = cell e.stored e.mark } in
    let h = rw c.in-Err-Exists.field-0-is at c.in-Err-Exists.ensures in
    (line, c.in_ok-entry.ensures.says, search rules, search rules, has_cell (mark_at c.args.self.now.marks) c.args.self.now.book e.name ∙ h.done.0)

pub returns-in-Err-Full-clause-left_out : goal.returns-in-Err-Full-clause-left_out
returns-in-Err-Full-clause-left_out c =
    let h = rw c.in-Err-Full.field-0-is at c.in-Err-Full.ensures in
    subst (λ n. register_capacity ≤ n) (sym (len_cells (mark_at c.args.self.now.marks) c.args.self.now.book)) h.done.1
