use Rattle.std.proofs.Common.{arith}
use Rattle.cred_blake.proofs.Schedule.{entry_below}
use Rattle.cred_blake.proofs.compress.word.Goals as goal

pub offset_bounds-m-r : goal.offset_bounds-m-r
offset_bounds-m-r c = omega (arith, entry_below c.args.r c.args.i c.requires.0 c.requires.1)

pub bounds-m-r : goal.bounds-m-r
bounds-m-r c = entry_below c.args.r c.args.i c.requires.0 c.requires.1
