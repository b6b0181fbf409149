use Rattle.std.proofs.Common.{sym, ap, ◌∙◌, Some}
use Rattle.cred_book.proofs.Kept.{get_there, get_absent}
use Rattle.cred_book.proofs.book.AccountArrayAccountMap.get.Goals as goal

pub returns-in-Ok : goal.returns-in-Ok
returns-in-Ok c =
    let place = rw c.deref.ensures.value at c.in-Ok.ensures in
    ap (λ entry. Some entry.1) c.index.ensures ∙ sym (get_there _ _ c.self.invariant _ c.self.view_is _ _ place c.index.result.now)

pub returns-in-Err : goal.returns-in-Err
returns-in-Err c = sym (get_absent _ _ c.self.invariant _ c.self.view_is _ _ (rw c.deref.ensures.value at c.in-Err.ensures))
