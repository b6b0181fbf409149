use Rattle.std.proofs.Common.{◌∙◌, arith, sym}
use Rattle.cred_book.proofs.Kept.{len_of}
use Rattle.cred_book.proofs.register.AccountTreeAccountMap.len.Goals as goal

pub returns-clause-len : goal.returns-clause-len
returns-clause-len c = c.len.ensures.len ∙ sym (len_of _ c.self.invariant.sorted _ c.self.view_is)

pub returns-clause-few : goal.returns-clause-few
returns-clause-few c = omega (arith, len_of _ c.self.invariant.sorted _ c.self.view_is, c.self.invariant.few)
