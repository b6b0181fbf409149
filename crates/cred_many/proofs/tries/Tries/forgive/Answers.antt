use Rattle.std.proofs.Common.{subst, sym}
use Rattle.cred_many.specs.Scribe.{AreIdle}
use Rattle.cred_many.proofs.Limiting.{forgives_idle, idle_of}
use Rattle.cred_many.proofs.tries.Tries.forgive.Goals.{in-Some, in_default}
use Rattle.cred_many.proofs.tries.Tries.forgive.Goals as goal

pub invariant_of-self : goal.invariant_of-self
invariant_of-self c = elim c.match-self.branch [
  | in-Some w ↦ subst (λ s. AreIdle s.limiter) (sym w.self-inside-is) (forgives_idle _ _ _ _ w.forgive.ensures (idle_of _ _ c.self.invariant w.in-Some.is))
  | in_default w ↦ subst (λ s. AreIdle s.limiter) (sym w.self-inside-is) c.self.invariant
]
