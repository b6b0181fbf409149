use Rattle.std.proofs.Common.{◌≡◌, [], List}
use Rattle.sqlite.specs.{Order.Row, State.HasCleanDisk, State.IsUnchanged, State.Survives, Held.state, Given.HasGiven}
use Rattle.cred_file.specs.{Cells.cells_of, Cells.mark_at, Drafts.IsDraftOf, Opening.rows_text}
use Rattle.cred_file.proofs.statements.read_rows.Given as goal

abbrev pub invariant-rows : goal.invariant-rows
invariant-rows g l =
    let old = state g.S.Store l.fn.conn in
    let now = state g.S.Store l.rows.conn.now in
    (l.rows.conn.ghost_name ≡ l.initial.rows.conn.ghost_name) × Survives old now (λ _. ⊥)
    × (HasCleanDisk now → IsUnchanged old now × ((given : List Row) × HasGiven g.S.Store rows_text [] l.rows.conn.now given × IsDraftOf given (cells_of l.draft.book (mark_at l.draft.marks)) l.draft.last))
