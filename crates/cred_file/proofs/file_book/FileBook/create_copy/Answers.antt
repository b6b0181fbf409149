use Rattle.std.proofs.Common.{◌≤◌, arith, ap, refl, sym, subst, ◌∙◌}
use Rattle.std.specs.FinMap as fin
use Rattle.sqlite.specs.{Held.state, State.HasCleanDisk}
use Rattle.cred_book.specs.Accounts.{register_capacity}
use Rattle.cred_file.specs.Cells.{Cells, cells_of, mark_at}
use Rattle.cred_file.specs.Keeps.{IsTableOf}
use Rattle.cred_file.proofs.{CellLaws.len_cells, CellLaws.no_cells, Copied.may_copy, Keeping.keeps_first, Joined.taken_whole, Joined.there_same}
use Rattle.cred_file.proofs.JoinedCells.{cells_taken, taken_cells_whole, none_apart}
use Rattle.cred_file.proofs.file_book.FileBook.create_copy.Goals as goal

pub take_together-requires-clause-apart : goal.take_together-requires-clause-apart
take_together-requires-clause-apart g c = none_apart _ _ c.new-book.ensures

pub take_together-requires-clause-there : goal.take_together-requires-clause-there
take_together-requires-clause-there g c = there_same _ _ (c.new-book.ensures ∙ sym c.new-none.ensures)

pub invariant_of-result : goal.invariant_of-result
invariant_of-result g c =
    let old = c.create_table.new.conn in
    let new = c.take_together.new.conn in
    let there = there_same _ _ (c.new-book.ensures ∙ sym c.new-none.ensures) in
    let made = (λ i. cells_of (c.in-Ok-take_together.ensures.book i) (c.in-Ok-take_together.ensures.marks i)) ∙ cells_taken (mark_at c.new-kept.result) c.args.marks.now c.new-book.result c.args.accounts.now c.new-none.result there in
    let is = c.in-Ok-take_together.ensures.book ∙ taken_whole _ _ c.args.accounts.now c.new-book.ensures c.new-none.ensures in
    let low : fin.len c.take_together.new.book ≤ register_capacity = subst (λ b. fin.len b ≤ register_capacity) (sym is) c.len-few.ensures.few in
    keeps_first g.S.Store new _ (omega (arith, len_cells (mark_at c.take_together.new.marks) c.take_together.new.book, low)) (λ clean.
    let early : HasCleanDisk (state g.S.Store old) = omega (arith, c.in-Ok-take_together.ensures.clean, clean) in
    let was = subst (λ (b : Cells). IsTableOf (state g.S.Store old) b) (sym (ap (λ b. cells_of b (mark_at c.new-kept.result)) c.new-book.ensures ∙ no_cells (mark_at c.new-kept.result))) (c.in-Ok.ensures.made early) in
    subst (λ (b : Cells). IsTableOf (state g.S.Store new) b) (sym made) (c.in-Ok-take_together.ensures.taken clean was))

pub returns-in-Ok-take_together-clause-copied : goal.returns-in-Ok-take_together-clause-copied
returns-in-Ok-take_together-clause-copied g c =
    let there = there_same _ _ (c.new-book.ensures ∙ sym c.new-none.ensures) in
    let made = (λ i. cells_of (c.in-Ok-take_together.ensures.book i) (c.in-Ok-take_together.ensures.marks i)) ∙ cells_taken (mark_at c.new-kept.result) c.args.marks.now c.new-book.result c.args.accounts.now c.new-none.result there in (
      c.in-Ok-take_together.ensures.book ∙ taken_whole _ _ c.args.accounts.now c.new-book.ensures c.new-none.ensures,
      made ∙ taken_cells_whole (mark_at c.new-kept.result) c.new-book.result c.new-none.result c.args.accounts.now c.args.marks.now c.new-book.ensures c.new-none.ensures,
      refl,
    )

pub returns-in-Err-take_together-clause-left : goal.returns-in-Err-take_together-clause-left
returns-in-Err-take_together-clause-left g c clean =
    let old = c.create_table.new.conn in
    let early : HasCleanDisk (state g.S.Store old) = omega (arith, c.in-Err-take_together.ensures.clean, clean) in
    let none = ap (λ b. cells_of b (mark_at c.new-kept.result)) c.new-book.ensures ∙ no_cells (mark_at c.new-kept.result) in
    let was = subst (λ (b : Cells). IsTableOf (state g.S.Store old) b) (sym none) (c.in-Ok.ensures.made early) in
    may_copy (state g.S.Store c.args.conn) (state g.S.Store c.take_together.new.conn) _ _ (cells_of c.args.accounts.now (mark_at c.args.marks.now)) none
    (taken_cells_whole (mark_at c.new-kept.result) c.new-book.result c.new-none.result c.args.accounts.now c.args.marks.now c.new-book.ensures c.new-none.ensures)
    (c.in-Err-take_together.ensures.left clean was)
