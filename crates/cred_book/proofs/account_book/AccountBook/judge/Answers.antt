use Rattle.std.proofs.Common.{ap, ◌∙◌}
use Rattle.cred_book.specs.Works.{name_of}
use Rattle.cred_book.proofs.Commitments.{judged_found, not_shown}
use Rattle.cred_book.proofs.account_book.AccountBook.judge.Goals as goal

pub returns-in-Ok : goal.returns-in-Ok
returns-in-Ok g c = c.judgement_at.ensures ∙ judged_found c.args.self.now c.args.worked.now _ (c.name.ensures ∙ ap name_of c.request.ensures) _ c.in-Ok.ensures

pub returns-in-Err : goal.returns-in-Err
returns-in-Err g c = judged_found c.args.self.now c.args.worked.now _ (c.name.ensures ∙ ap name_of c.request.ensures) _ (not_shown _ _ _ c.in-Err.ensures)
