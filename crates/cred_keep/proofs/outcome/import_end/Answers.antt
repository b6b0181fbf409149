use Rattle.std.proofs.Common.{rules}
use Rattle.cred_keep.proofs.outcome.import_end.Goals as goal

pub returns-in-Err-tell : goal.returns-in-Err-tell
returns-in-Err-tell g c = λ basis. search (rules, c.in-Err-tell.ensures.told basis, c.in-Err-tell.ensures.fault)
