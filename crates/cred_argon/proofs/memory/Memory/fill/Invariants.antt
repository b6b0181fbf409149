use Rattle.std.proofs.Common.{◌+◌, ◌*◌}
use Rattle.cred_argon.proofs.Filling.{IsFilled}
use Rattle.cred_argon.proofs.memory.Memory.fill.Given as goal

abbrev pub invariant-slices : goal.invariant-slices
invariant-slices g l = IsFilled l.fn.self l.self l.passes (4 * l.pass + l.slice)

abbrev pub invariant-passes : goal.invariant-passes
invariant-passes g l = IsFilled l.fn.self l.self l.passes (4 * l.pass)
