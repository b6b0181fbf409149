use Rattle.std.proofs.Common.{rules}
use Rattle.cred_book.proofs.Commitments.{not_shown}
use Rattle.cred_admin.proofs.showing.show.Goals as goal

pub returns-in-Err : goal.returns-in-Err
returns-in-Err g c = λ basis. search (rules, not_shown _ _ _ c.in-Err.ensures, c.tell.ensures.told basis)

pub returns-in-Ok-None : goal.returns-in-Ok-None
returns-in-Ok-None g c = λ basis. search (rules, c.tell-in-Ok-None.ensures.told basis)

pub returns-in_ok-extend_from_slice-in-Ok-Some-3 : goal.returns-in_ok-extend_from_slice-in-Ok-Some-3
returns-in_ok-extend_from_slice-in-Ok-Some-3 g c = λ basis. search (rules, c.tell-in-Ok-Some.ensures.told basis)
