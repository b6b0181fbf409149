use Rattle.std.proofs.Common.{ap, ◌∙◌}
use Rattle.cred_book.specs.Works.{name_of}
use Rattle.cred_book.proofs.Commitments.{commits_nothing, commits_judged, not_shown}
use Rattle.cred_book.proofs.account_book.AccountBook.commit.Goals as goal

pub returns-in-Ok : goal.returns-in-Ok
returns-in-Ok g c =
    commits_judged c.args.self.now c.args.worked _ (c.name-name.ensures ∙ ap name_of c.request.ensures) _ c.in-Ok.ensures _ c.judgement_at-reply.ensures _ c.replace.ensures

pub returns-in-Err : goal.returns-in-Err
returns-in-Err g c =
    commits_nothing c.args.self.now c.args.worked _ (c.name-name.ensures ∙ ap name_of c.request.ensures) (not_shown _ _ _ c.in-Err.ensures)
