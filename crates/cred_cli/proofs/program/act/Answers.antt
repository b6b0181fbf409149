use Rattle.std.proofs.Common.{rules, []}
use Rattle.cred_cli.specs.Watched.{Contract, Transcript}
use Rattle.cred_cli.proofs.program.act.Goals as goal

pub returns-then-eq-2-clause-acts : goal.returns-then-eq-2-clause-acts
returns-then-eq-2-clause-acts g c = search (rules, c.hash.ensures.hashes Contract)

pub returns-then-eq-2-clause-transcript : goal.returns-then-eq-2-clause-transcript
returns-then-eq-2-clause-transcript g c = λ rest may. search (rules, c.hash.ensures.hashes (Transcript []))

pub returns-clause-acts : goal.returns-clause-acts
returns-clause-acts g c = search (rules, c.check.ensures.checks Contract)

pub returns-clause-transcript : goal.returns-clause-transcript
returns-clause-transcript g c = λ rest may. search (rules, c.check.ensures.checks (Transcript []))
