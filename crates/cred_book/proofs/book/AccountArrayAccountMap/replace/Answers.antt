use Rattle.std.proofs.Common.{◌∙◌, sym}
use Rattle.std.proofs.lemmas.Bool.{false≢true}
use Rattle.cred_book.proofs.Kept.{set_there, kept_set, is_absent}
use Rattle.cred_book.proofs.book.AccountArrayAccountMap.replace.Goals as goal

pub invariant_of-self : goal.invariant_of-self
invariant_of-self c =
    let place = rw c.deref.ensures.value at c.in-Ok.ensures in
    rw c.index_mut.ensures.value (kept_set _ _ c.self.invariant _ c.self.view_is _ _ place c.index_mut.result.now _)

pub unreachable-requires : goal.unreachable-requires
unreachable-requires c = absurd (false≢true (sym (is_absent _ _ c.self.invariant _ c.self.view_is _ _ (rw c.deref.ensures.value at c.in-Err.ensures)) ∙ c.requires))

pub returns : goal.returns
returns c =
    let place = rw c.deref.ensures.value at c.in-Ok.ensures in
    rw c.index_mut.ensures.value (set_there _ _ c.self.invariant _ c.self.view_is _ _ place c.index_mut.result.now _)
