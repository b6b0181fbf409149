use Rattle.std.proofs.Common.{rules, subst, sym}
use Rattle.cred_tries.specs.Limits.{IsFree}
use Rattle.cred_many.specs.Scribe.{AreIdle}
use Rattle.cred_many.proofs.Limiting.{forgives_idle, idle_of, right_idle, wrong_idle}
use Rattle.cred_many.proofs.tries.Tries.count.Goals.{in-Right, in-Forgiven, in-Nothing}
use Rattle.cred_many.proofs.tries.Tries.count.Goals as goal

pub invariant_of-self-in-Wrong : goal.invariant_of-self-in-Wrong
invariant_of-self-in-Wrong c =
    let free : IsFree c.in-Some.limiter c.args.name.now c.args.now = search rules in
    wrong_idle c.wrong.result _ _ _ _ c.wrong.ensures.counted c.wrong.ensures.memory free (idle_of _ _ c.self.invariant c.in-Some.is)

pub invariant_of-self-2 : goal.invariant_of-self-2
invariant_of-self-2 c = elim c.match-effect.branch [
  | in-Right w ↦
      let free : IsFree c.in-Some.limiter c.args.name.now c.args.now = search rules in
      subst (λ s. AreIdle s.limiter) (sym w.self-inside-is) (right_idle _ _ _ _ w.right.ensures free (idle_of _ _ c.self.invariant c.in-Some.is))
  | in-Forgiven w ↦ subst (λ s. AreIdle s.limiter) (sym w.self-inside-is) (forgives_idle _ _ _ _ w.forgive.ensures (idle_of _ _ c.self.invariant c.in-Some.is))
  | in-Nothing w ↦ subst (λ s. AreIdle s.limiter) (sym w.self-inside-is) (subst AreIdle c.in-Some.is c.self.invariant)
]
