use Rattle.std.proofs.Common.{◌≡◌, ◌⊎◌, inl, ap, sym, subst, arith, rules, ◌∙◌}
use Rattle.sqlite.specs.{Held.state, State.HasCleanDisk}
use Rattle.cred_file.specs.Cells.{cells_of, mark_at}
use Rattle.cred_file.specs.{Keeps.IsTableOf, Keeps.LeavesOnly, Transactions.KeepsOthers, Transactions.changed_mark, Transactions.marks_with, Transactions.taken_marks, Changes.AreThere, Changes.taken_cells}
use Rattle.cred_file.proofs.Joined.{joined_keeps, there_still}
use Rattle.cred_file.proofs.JoinedCells.{written}
use Rattle.cred_file.proofs.Within.{begun, committed, commit_left, on_any, uncommitted}
use Rattle.cred_file.proofs.transaction.take_together.Goals as goal

pub returns-in_err-enter_each-clause-left : goal.returns-in_err-enter_each-clause-left
returns-in_err-enter_each-clause-left g c clean was =
    let cells = cells_of c.args.book.now (mark_at c.args.marks.now) in
    let after = taken_cells cells c.args.batch.added.now c.args.batch.changed.now c.args.batch.marks.now in
    let end = c.drop-tx.new.self.0 in
    let same : end ≡ c.conn-1.given.0 = search rules in
    let first = begun g.S.Store c.args.conn.now _ cells c.transaction-tx.ensures.begun was in
    subst (λ h. HasCleanDisk (state g.S.Store h) → LeavesOnly (state g.S.Store h) (λ b. (b ≡ cells) ⊎ (b ≡ after))) same
    (λ late. uncommitted _ _ (state g.S.Store end) cells _ late c.enter_each.ensures.survives c.drop-tx.ensures.survives first.left) clean

pub returns-in_err-update_each-clause-part : goal.returns-in_err-update_each-clause-part
returns-in_err-update_each-clause-part g c =
    on_any c.from_residual-in_err-update_each.result (subst (λ b. KeepsOthers c.args.book.now c.args.batch.added.now b) (sym c.in_ok-enter_each.ensures.book) (joined_keeps c.args.book.now c.args.batch.added.now))

pub returns-in_err-update_each-clause-left : goal.returns-in_err-update_each-clause-left
returns-in_err-update_each-clause-left g c clean was =
    let cells = cells_of c.args.book.now (mark_at c.args.marks.now) in
    let after = taken_cells cells c.args.batch.added.now c.args.batch.changed.now c.args.batch.marks.now in
    let end = c.drop-tx-in_err-update_each.new.self.0 in
    let same : end ≡ c.conn-in_err-update_each-1.given.0 = search rules in
    let first = begun g.S.Store c.args.conn.now _ cells c.transaction-tx.ensures.begun was in
    subst (λ h. HasCleanDisk (state g.S.Store h) → LeavesOnly (state g.S.Store h) (λ b. (b ≡ cells) ⊎ (b ≡ after))) same (λ late.
    let early : HasCleanDisk (state g.S.Store c.enter_each.new.tx.conn.now) = omega (arith, c.update_each.ensures.survives.clean, c.drop-tx-in_err-update_each.ensures.survives.clean, late) in
    uncommitted _ _ (state g.S.Store end) cells _ late c.update_each.ensures.survives c.drop-tx-in_err-update_each.ensures.survives (c.in_ok-enter_each.ensures.entered early cells (mark_at c.args.marks.now) first).left) clean

pub returns-in_err-finish-clause-part : goal.returns-in_err-finish-clause-part
returns-in_err-finish-clause-part g c =
    on_any c.from_residual-in_err-finish.result (subst (λ b. KeepsOthers c.args.book.now c.args.batch.added.now b) (sym c.in_ok-enter_each.ensures.book) (joined_keeps c.args.book.now c.args.batch.added.now))

pub returns-in_err-finish-clause-left : goal.returns-in_err-finish-clause-left
returns-in_err-finish-clause-left g c clean was =
    let cells = cells_of c.args.book.now (mark_at c.args.marks.now) in
    let after = taken_cells cells c.args.batch.added.now c.args.batch.changed.now c.args.batch.marks.now in
    let more = state g.S.Store c.update_each.new.tx.conn.now in
    let end = c.finish.new.tx.0 in
    let same : end ≡ c.conn-2-1.given.0 = search rules in
    let first = begun g.S.Store c.args.conn.now _ cells c.transaction-tx.ensures.begun was in
    let all = written (mark_at c.args.marks.now) _ c.args.batch.marks.now c.args.book.now _ c.args.batch.added.now c.args.batch.changed.now c.requires.apart c.requires.there c.in-Ok.ensures.same c.in_ok-enter_each.ensures.book first c.update_each.ensures.survives c.in_ok-enter_each.ensures.entered c.in_ok-update_each.ensures.updated in
    subst (λ h. HasCleanDisk (state g.S.Store h) → LeavesOnly (state g.S.Store h) (λ b. (b ≡ cells) ⊎ (b ≡ after))) same
    (λ late. commit_left more (state g.S.Store end) cells _ late (all (omega (arith, c.finish.ensures.survives.clean, late))) c.finish.ensures.survives) clean

pub replace_each-requires : goal.replace_each-requires
replace_each-requires g c = subst (λ b. AreThere b c.args.batch.changed.now) (sym c.in_ok-enter_each.ensures.book) (there_still _ _ _ c.requires.there)

pub returns-clause-marks : goal.returns-clause-marks
returns-clause-marks g c =
    c.mark_changed.ensures ∙ ap (λ n. marks_with (changed_mark c.args.batch.marks.now) n c.args.batch.changed.now) c.mark_added.ensures.marks
    ∙ ap (λ n. taken_marks n c.args.batch.added.now c.args.batch.changed.now c.args.batch.marks.now) c.in-Ok.ensures.same

pub returns-clause-taken : goal.returns-clause-taken
returns-clause-taken g c clean was =
    let cells = cells_of c.args.book.now (mark_at c.args.marks.now) in
    let after = taken_cells cells c.args.batch.added.now c.args.batch.changed.now c.args.batch.marks.now in
    let more = state g.S.Store c.update_each.new.tx.conn.now in
    let end = c.finish.new.tx.0 in
    let same : end ≡ c.conn-2-1.given.0 = search rules in
    let first = begun g.S.Store c.args.conn.now _ cells c.transaction-tx.ensures.begun was in
    let all = written (mark_at c.args.marks.now) _ c.args.batch.marks.now c.args.book.now _ c.args.batch.added.now c.args.batch.changed.now c.requires.apart c.requires.there c.in-Ok.ensures.same c.in_ok-enter_each.ensures.book first c.update_each.ensures.survives c.in_ok-enter_each.ensures.entered c.in_ok-update_each.ensures.updated in
    subst (λ h. HasCleanDisk (state g.S.Store h) → IsTableOf (state g.S.Store h) after) same
    (λ late. committed more (state g.S.Store end) cells _ (g.met.S.Store.settled end.store) (all (omega (arith, c.finish.ensures.survives.clean, late))) (c.in_ok-finish.ensures.shown late)) clean

pub returns-clause-left : goal.returns-clause-left
returns-clause-left g c clean was =
    let cells = cells_of c.args.book.now (mark_at c.args.marks.now) in
    let after = taken_cells cells c.args.batch.added.now c.args.batch.changed.now c.args.batch.marks.now in
    let more = state g.S.Store c.update_each.new.tx.conn.now in
    let end = c.finish.new.tx.0 in
    let same : end ≡ c.conn-2-1.given.0 = search rules in
    let first = begun g.S.Store c.args.conn.now _ cells c.transaction-tx.ensures.begun was in
    let all = written (mark_at c.args.marks.now) _ c.args.batch.marks.now c.args.book.now _ c.args.batch.added.now c.args.batch.changed.now c.requires.apart c.requires.there c.in-Ok.ensures.same c.in_ok-enter_each.ensures.book first c.update_each.ensures.survives c.in_ok-enter_each.ensures.entered c.in_ok-update_each.ensures.updated in
    subst (λ h. HasCleanDisk (state g.S.Store h) → LeavesOnly (state g.S.Store h) (λ b. (b ≡ cells) ⊎ (b ≡ after))) same
    (λ late. commit_left more (state g.S.Store end) cells _ late (all (omega (arith, c.finish.ensures.survives.clean, late))) c.finish.ensures.survives) clean

pub returns-in_default-clause-left : goal.returns-in_default-clause-left
returns-in_default-clause-left g c clean was db may = let left = was.left db may in (left.0, inl left.1, left.2)
