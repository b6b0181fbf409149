-- These answers are written out, so that the prover refuses a wrong body here, without a long
-- search.
use Rattle.std.proofs.Common.{rules}
use Rattle.std.specs.Fmt.{digits}
use Rattle.cred_cli.proofs.refusal.book_line.Goals as goal

pub returns-in-Exists : goal.returns-in-Exists
unfolding digits
returns-in-Exists c = search rules

pub returns-in-Full : goal.returns-in-Full
unfolding digits
returns-in-Full c = search rules

pub returns-in-Name : goal.returns-in-Name
unfolding digits
returns-in-Name c = search rules

pub returns-in-Memory : goal.returns-in-Memory
unfolding digits
returns-in-Memory c = search rules

pub returns-in-NoAccount : goal.returns-in-NoAccount
unfolding digits
returns-in-NoAccount c = search rules
