use Rattle.std.proofs.Common.{◌++◌, ap}
use Rattle.cred_desk.proofs.desk.Desk.close.Goals as goal

pub returns-in-Ok-clause-known : goal.returns-in-Ok-clause-known
returns-in-Ok-clause-known g c = λ k s lt. rw (← ap (λ h. h ++ c.in-Ok.field-0.closed.journal.items) c.handed.invariant) (c.in-Ok.ensures.known k s lt)
