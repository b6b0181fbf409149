use Rattle.std.proofs.Common.{◌++◌, ap, refl}
use Rattle.cred_cli.specs.{Statuses.status_number, Watched.Transcript, Watched.transcript_reading, Watched.given_of, Watched.transcript_writing}
use Rattle.cred_cli.proofs.{Programs.no_memory, Programs.run_fails, Programs.runs_whole, Basis.none_logged}
use Rattle.cred_cli.proofs.program.run.Goals as goal

pub returns-in_default-clause-runs : goal.returns-in_default-clause-runs
returns-in_default-clause-runs g c = no_memory _ _ _ _ _ c.requires.new_reader.log (ap status_number c.failed.ensures)

pub returns-in_default-clause-transcript : goal.returns-in_default-clause-transcript
returns-in_default-clause-transcript g c = λ rest may. no_memory (transcript_reading rest c.args.reader.now) _ _ _ _ (none_logged (Transcript (given_of c.args.reader.now ++ rest)) _ c.requires.new_reader.log) (ap status_number c.failed.ensures)

pub returns-in-Ok-run_script-clause-transcript : goal.returns-in-Ok-run_script-clause-transcript
returns-in-Ok-run_script-clause-transcript g c = λ rest may. runs_whole _ _ _ _ _ _ (transcript_writing c.args.writer.now c.run_script.new.writer) _ _ c.in-Ok.ensures.empty refl (c.in-Ok-run_script.ensures.transcript rest may)

pub returns-clause-runs : goal.returns-clause-runs
returns-clause-runs g c =
    run_fails _ _ _ _ c.in-Err.fault _ c.in-Ok.ensures.empty (ap status_number c.failed-in-Err.ensures) c.in-Err.ensures.fault c.in-Err.ensures.cause c.run_script.ensures.prompt

pub returns-clause-transcript : goal.returns-clause-transcript
returns-clause-transcript g c = λ rest may.
    let ended = c.in-Err.ensures.transcript rest may in
    run_fails _ (transcript_reading rest c.run_script.new.reader) (transcript_writing c.args.writer.now c.run_script.new.writer) _ c.in-Err.fault _ c.in-Ok.ensures.empty (ap status_number c.failed-in-Err.ensures) ended.fault c.in-Err.ensures.cause ended.prompt
