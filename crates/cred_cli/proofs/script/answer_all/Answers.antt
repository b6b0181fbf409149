use Rattle.std.proofs.lemmas.Result.{err_from_is_err_and}
use Rattle.cred_cli.specs.Script.{script_start}
use Rattle.cred_cli.proofs.{Programs.unbegun, Readings.if_known, Readings.opening, Basis.none_logged}
use Rattle.cred_cli.proofs.script.answer_all.Goals as goal

-- there was no memory for the tickets, and so no call
pub returns-in_err-tickets-clause-ended : goal.returns-in_err-tickets-clause-ended
returns-in_err-tickets-clause-ended g c =
    let told = err_from_is_err_and c.from_residual.result c.from_residual.ensures.1 in
    λ basis fits. rw (told.1, told.2) (unbegun _ _ _ _ _ _ (none_logged basis _ c.requires.new_reader.log))

pub returns-clause-ended : goal.returns-clause-ended
returns-clause-ended g c = λ basis fits.
    if_known _ _ (λ all known. c.read_all.ensures.ended basis fits (script_start _ all _) known (opening _ _ all _ _ _ c.in_ok-tickets.ensures c.new-progress.ensures.start c.new-progress.ensures.lines c.new-progress.ensures.taken))

pub returns-clause-few : goal.returns-clause-few
returns-clause-few g c = λ basis fits.
    if_known _ _ (λ all known. c.read_all.ensures.few basis fits (script_start _ all _) known (opening _ _ all _ _ _ c.in_ok-tickets.ensures c.new-progress.ensures.start c.new-progress.ensures.lines c.new-progress.ensures.taken))
