use Rattle.std.proofs.Common.{◌∙◌, ap}
use Rattle.cred_scrypt.specs.{Diagonals.transposed, Salsa.column_round, Salsa.row_round}
use Rattle.cred_scrypt.proofs.salsa.row_round.Goals as goal

-- a row round is a column round of the transposed square
pub returns : goal.returns
unfolding transposed column_round row_round
returns c = c.transposed-2.ensures ∙ ap transposed (c.column_round.ensures ∙ ap column_round c.transposed.ensures)
