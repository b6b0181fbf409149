use Rattle.std.proofs.Common.{rules, refl}
use Rattle.cred_many.proofs.Serving.{starved, still}
use Rattle.cred_many.proofs.{Adding.none_one, Serving.adds_starved, Serving.none_still}
use Rattle.cred_many.proofs.scribe.Scribe.refuse.Goals as goal

pub invariant_of-self : goal.invariant_of-self
invariant_of-self g c = record { history = still _ _ _ _ _ _ _ _ _ c.requires.ready.going c.args.self.now.history; cause = λ source. ∣ (search rules) ∣₁ }

pub invariant_of-self-2-clause-history : goal.invariant_of-self-2-clause-history
invariant_of-self-2-clause-history g c = starved _ g.J.ServiceId.service _ _ (g.K.Host.book c.args.self.now.keeper) _ c.args.line _ _ c.args.place _ _ _ _ _ _ _ c.requires.ready c.answer.ensures.came c.answer.ensures.closed c.answer.ensures.told c.args.self.now.history refl c.line-answer.ensures c.requires.needs refl

pub returns-then-has_failed-clause-adds : goal.returns-then-has_failed-clause-adds
returns-then-has_failed-clause-adds g c = none_one _ _ _ _ (none_still _ _ _ _ _ _ _ _ _ c.requires.ready.going)

pub returns-clause-adds : goal.returns-clause-adds
returns-clause-adds g c = adds_starved _ g.J.ServiceId.service _ _ (g.K.Host.book c.args.self.now.keeper) _ c.args.line _ _ c.args.place _ _ _ _ _ _ _ c.requires.ready c.answer.ensures.came c.answer.ensures.closed c.answer.ensures.told refl c.line-answer.ensures c.requires.needs refl
