use Rattle.std.proofs.{Common.◌≤◌, Common.◌^◌, Common.arith, Math.Pow.pow_mono}
use Rattle.cred_scrypt.proofs.romix.rows_of.Goals as goal

pub returns-clause-below : goal.returns-clause-below
returns-clause-below c = let most : 2 ^ c.args.ln ≤ 2 ^ 24 = pow_mono c.requires in omega arith
