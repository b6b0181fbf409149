use Rattle.cred_many.proofs.Adding.{quick_some}
use Rattle.cred_many.proofs.scribe.Scribe.no_memory.Goals as goal

pub returns-clause-turn : goal.returns-clause-turn
returns-clause-turn g c = rw c.into_line.ensures at c.starve.ensures.turn

pub returns-clause-adds : goal.returns-clause-adds
returns-clause-adds g c = quick_some _ _ _ c.starve.ensures.adds
