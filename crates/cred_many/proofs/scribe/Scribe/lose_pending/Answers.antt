use Rattle.std.proofs.Common.{rules, arith, inl}
use Rattle.cred_many.proofs.Serving.{still}
use Rattle.cred_many.proofs.scribe.Scribe.lose_pending.Goals as goal

pub invariant_of-self : goal.invariant_of-self
invariant_of-self g c = record { history = still _ _ _ _ _ _ _ _ _ (search rules) c.args.self.now.history; cause = λ source. ∣ inl (grind (arith, c.is_empty.ensures)) ∣₁ }
