use Rattle.cred_many.proofs.Inboxes.{spares}
use Rattle.cred_many.proofs.inbox.WorkerEnd.another.Goals as goal

pub another-requires-clause-rule : goal.another-requires-clause-rule
another-requires-clause-rule g c = spares _ _
