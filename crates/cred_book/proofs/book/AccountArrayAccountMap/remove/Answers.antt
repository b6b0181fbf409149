use Rattle.std.proofs.Common.{sym}
use Rattle.cred_book.proofs.{Kept.is_absent, Kept.kept_remove, Kept.remove_there, Rows.remove_absent}
use Rattle.cred_book.proofs.book.AccountArrayAccountMap.remove.Goals as goal

pub invariant_of-self : goal.invariant_of-self
invariant_of-self c =
    let place = rw c.deref.ensures.value at c.in-Ok.ensures in
    rw (c.remove-taken.ensures.items, c.remove-taken.ensures.capacity) (kept_remove _ _ c.self.invariant _ c.self.view_is _ _ place c.remove-taken.result)

pub returns-in-Ok : goal.returns-in-Ok
returns-in-Ok c =
    let place = rw c.deref.ensures.value at c.in-Ok.ensures in
    rw c.remove-taken.ensures.items (remove_there _ _ c.self.invariant _ c.self.view_is _ _ place c.remove-taken.result)

pub returns-in-Err : goal.returns-in-Err
returns-in-Err c = sym (remove_absent _ _ (is_absent _ _ c.self.invariant _ c.self.view_is _ _ (rw c.deref.ensures.value at c.in-Err.ensures)))
