use Rattle.std.proofs.{Common.inl, lemmas.Option.slice_get_within, lemmas.Result.err_from_is_err_and}
use Rattle.cred_cli.specs.{Feeding.standing_at, Script.events_of, Watched.Contract}
use Rattle.cred_cli.proofs.{Runs.line_ended, Basis.write_cause}
use Rattle.cred_cli.proofs.script.answer_line.Goals as goal

-- memory ran out
pub returns-in_err-answer-clause-answered : goal.returns-in_err-answer-clause-answered
returns-in_err-answer-clause-answered g c = λ basis progress script i at here.
    let told = err_from_is_err_and c.from_residual.result c.from_residual.ensures.1 in
    record { ended = rw (told.1, told.2, c.in_err-answer.ensures.refused) (λ left. (i, inl (slice_get_within (events_of script.bytes) i c.args.event here), at.stands)) }

pub returns-clause-answered : goal.returns-clause-answered
returns-clause-answered g c = λ basis progress script i at here.
    line_ended _ script i c.args.event c.requires here (standing_at _ _ _ progress) at (standing_at _ _ _ progress) c.in_ok-answer.answer _ c.write_to.result c.in_ok-answer.ensures.done (c.write_to.ensures.done basis) (c.write_to.ensures.fails basis)

pub returns-clause-cause : goal.returns-clause-cause
returns-clause-cause g c = write_cause _ _ _ _ c.write_to.result (c.write_to.ensures.fails Contract)
