use Rattle.std.proofs.Common.{None, arith}
use Rattle.cred_book.proofs.Registered.{kept_of, written_of}
use Rattle.cred_book.proofs.register.AccountTreeAccountMap.remove.Goals as goal

pub invariant_of-self : goal.invariant_of-self
invariant_of-self c = kept_of _ c.remove-taken.ensures.ordered (omega (arith, c.remove-taken.ensures.len, c.self.invariant.few))

pub returns : goal.returns
returns c = written_of _ c.self.invariant _ c.self.view_is _ (invariant_of-self c) _ None c.remove-taken.ensures.updates.0
