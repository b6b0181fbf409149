use Rattle.std.proofs.Common.{◌∙◌, sym, ap, Some}
use Rattle.cred_book.proofs.Registered.{get_of}
use Rattle.cred_book.proofs.register.AccountTreeAccountMap.get.Goals as goal

pub returns-in-Some : goal.returns-in-Some
returns-in-Some c = ap Some c.stored.ensures ∙ c.in-Some.ensures.value ∙ sym (get_of _ c.self.invariant _ c.self.view_is _)

pub returns-in-None : goal.returns-in-None
returns-in-None c = c.in-None.ensures.value ∙ sym (get_of _ c.self.invariant _ c.self.view_is _)
