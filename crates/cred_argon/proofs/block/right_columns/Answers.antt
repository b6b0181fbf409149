use Rattle.std.proofs.Common.{arith}
use Rattle.cred_argon.proofs.Whole.{columns_words, half_at, half_of}
use Rattle.cred_argon.proofs.block.right_columns.Goals as goal

pub returns : goal.returns
returns c v top low =
    columns_words v (half_of c.args.top c.args.low 1) c.four_columns.result 1 (omega arith)
    (half_at v c.args.top c.args.low 1 (omega arith) top low) c.four_columns.ensures
