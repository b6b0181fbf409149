use Rattle.std.proofs.Common.{rules}
use Rattle.cred_book.proofs.Commitments.{not_shown}
use Rattle.cred_admin.proofs.showing.show_json.Goals as goal

pub returns-in-Err : goal.returns-in-Err
returns-in-Err g c = λ basis. search (rules, not_shown _ _ _ c.in-Err.ensures, c.tell.ensures.told basis)

pub returns-in_ok-text-in-Ok-None : goal.returns-in_ok-text-in-Ok-None
returns-in_ok-text-in-Ok-None g c = λ basis. search (rules, c.tell-in-Ok-None.ensures.told basis)

pub returns-in_ok-text-in-Ok-Some : goal.returns-in_ok-text-in-Ok-Some
returns-in_ok-text-in-Ok-Some g c = λ basis. search (rules, c.tell-in-Ok-Some.ensures.told basis)
