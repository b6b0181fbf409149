use Rattle.std.proofs.Common.{rules}
use Rattle.cred_book.proofs.Commitments.{not_shown}
use Rattle.cred_admin.proofs.account_operation.disable_shown.Goals as goal

pub returns-in-Ok-None : goal.returns-in-Ok-None
returns-in-Ok-None g c = λ basis. search (rules, c.tell.ensures.told basis)

pub returns-in-Err : goal.returns-in-Err
returns-in-Err g c = λ basis. search (rules, not_shown _ _ _ c.in-Err.ensures, c.tell-in-Err.ensures.told basis)

pub returns-in_err-write_whole : goal.returns-in_err-write_whole
returns-in_err-write_whole g c = λ basis. search (rules, c.in_err-write_whole.ensures.cut basis)
