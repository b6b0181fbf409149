-- These answers are written out, so that the prover refuses a wrong body here, without a long
-- search.
use Rattle.std.proofs.Common.{rules}
use Rattle.std.specs.Fmt.{digits}
use Rattle.cred_cli.proofs.refusal.text_line.Goals as goal

pub returns-in-Shape : goal.returns-in-Shape
unfolding digits
returns-in-Shape c = search rules

pub returns-in-Scheme : goal.returns-in-Scheme
unfolding digits
returns-in-Scheme c = search rules

pub returns-in-Version : goal.returns-in-Version
unfolding digits
returns-in-Version c = search rules

pub returns-in-Params : goal.returns-in-Params
unfolding digits
returns-in-Params c = search rules

pub returns-in-Range : goal.returns-in-Range
unfolding digits
returns-in-Range c = search rules

pub returns-in-Salt : goal.returns-in-Salt
unfolding digits
returns-in-Salt c = search rules

pub returns-in-Tag : goal.returns-in-Tag
unfolding digits
returns-in-Tag c = search rules

pub returns-in-Memory : goal.returns-in-Memory
unfolding digits
returns-in-Memory c = search rules

pub returns-in-TooLong : goal.returns-in-TooLong
unfolding digits
returns-in-TooLong c = search rules
