use Rattle.cred_many.proofs.Inboxes.{reports}
use Rattle.cred_many.proofs.inbox.WorkerEnd.report.Goals as goal

pub send_as-requires-clause-rule : goal.send_as-requires-clause-rule
send_as-requires-clause-rule g c = (reports _ _ _ _ c.requires, λ items views h at. tt)
