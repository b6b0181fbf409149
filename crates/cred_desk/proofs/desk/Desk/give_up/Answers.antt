use Rattle.std.proofs.Common.{◌++◌, ap}
use Rattle.cred_desk.proofs.desk.Desk.give_up.Goals as goal

pub returns-clause-known : goal.returns-clause-known
returns-clause-known g c = λ k s lt. rw (← ap (λ h. h ++ c.give_up-remains.result.0.journal.items) c.handed.invariant) (c.give_up-remains.ensures.known k s lt)
