use Rattle.std.proofs.Common.{[], rules}
use Rattle.cred_many.proofs.{Serving.served_none, Telling.first_counted}
use Rattle.cred_many.proofs.scribe.Scribe.new.Goals as goal

pub invariant_of-result-clause-history : goal.invariant_of-result-clause-history
invariant_of-result-clause-history g c = ∣ ([], [], served_none _ _ _ _ _ _ (search rules) c.requires.opening c.requires.before (first_counted _ _ _ _ _ c.new-tries.ensures.none c.requires.limit c.new-tries.ensures.limit)) ∣₁

pub returns-clause-none : goal.returns-clause-none
returns-clause-none g c = served_none _ _ _ _ _ _ (search rules) c.requires.opening c.requires.before (first_counted _ _ _ _ _ c.new-tries.ensures.none c.requires.limit c.new-tries.ensures.limit)
