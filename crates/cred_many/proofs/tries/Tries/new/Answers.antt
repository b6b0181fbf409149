use Rattle.std.proofs.Common.{subst, sym}
use Rattle.cred_many.specs.Scribe.{AreIdle}
use Rattle.cred_many.proofs.Limiting.{new_idle}
use Rattle.cred_many.proofs.tries.Tries.new.Goals.{in-Some, in-None}
use Rattle.cred_many.proofs.tries.Tries.new.Goals as goal

pub invariant_of-result : goal.invariant_of-result
invariant_of-result c = elim c.match-limit.branch [
  | in-Some w ↦ subst AreIdle (sym w.limiter-is) (new_idle _ _ w.new.ensures)
  | in-None w ↦ subst AreIdle (sym w.limiter-is) tt
]
