-- These answers are written out, so that the prover refuses a wrong body here, without a long
-- search.
use Rattle.std.proofs.Common.{rules}
use Rattle.std.specs.Fmt.{digits}
use Rattle.cred_cli.proofs.refusal.Refusal.line.Goals as goal

pub returns-in-Long : goal.returns-in-Long
unfolding digits
returns-in-Long c = search rules

pub returns-in-Line : goal.returns-in-Line
unfolding digits
returns-in-Line c = search rules

pub returns-in-Key : goal.returns-in-Key
unfolding digits
returns-in-Key c = search rules

pub returns-in-Password : goal.returns-in-Password
unfolding digits
returns-in-Password c = search rules

pub returns-in-Busy : goal.returns-in-Busy
unfolding digits
returns-in-Busy c = search rules

pub returns-in-Idle : goal.returns-in-Idle
unfolding digits
returns-in-Idle c = search rules

pub returns-in-Costly : goal.returns-in-Costly
unfolding digits
returns-in-Costly c = search rules
