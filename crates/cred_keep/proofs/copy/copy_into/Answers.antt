use Rattle.std.proofs.Common.{ap, subst, sym, ◌∙◌}
use Rattle.std.specs.FinMap as map
use Rattle.cred_book.specs.Accounts.{Accounts}
use Rattle.cred_file.specs.{Cells.cells_of, Cells.mark_at, Keeps.IsTableOf}
use Rattle.cred_file.proofs.CellLaws.{len_cells}
use Rattle.sqlite.specs.Held.{state}
use Rattle.cred_keep.proofs.copy.copy_into.Goals as goal

pub returns-in-Ok-clause-copied : goal.returns-in-Ok-clause-copied
returns-in-Ok-clause-copied g c clean =
    let it = c.in-Ok.ensures.copied in
    let is = it.1 ∙ (λ i. cells_of (c.book.ensures i) (mark_at (c.marks.ensures i))) in (
      subst (IsTableOf (state g.D.Store c.close.result)) is (c.close.ensures.kept.table clean it.2),
      c.len-count.ensures.len ∙ ap (λ (b : Accounts). map.len b) (c.book-in-Ok.ensures ∙ it.0 ∙ c.book.ensures)
          ∙ sym (len_cells (mark_at c.args.book.now.marks) c.args.book.now.book),
    )
