use Rattle.std.proofs.Common.{◌≡◌}
use Rattle.cred_argon.proofs.scratch.ArgonScratch.keep_slice.Given as goal

abbrev pub invariant-segments : goal.invariant-segments
invariant-segments l = l.self ≡ l.initial.self
