use Rattle.std.proofs.Common.{ap}
use Rattle.cred_many.proofs.Inboxes.{takes}
use Rattle.cred_many.proofs.inbox.Inbox.try_recv.Goals as goal

pub try_recv_as-requires-clause-rule : goal.try_recv_as-requires-clause-rule
try_recv_as-requires-clause-rule g c = (takes _ _ (ap (λ k. k.takes) c.args.self.now.part), λ items views h at. tt)
