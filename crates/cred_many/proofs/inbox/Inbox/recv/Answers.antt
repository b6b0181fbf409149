use Rattle.std.proofs.Common.{ap}
use Rattle.cred_many.proofs.Inboxes.{takes}
use Rattle.cred_many.proofs.inbox.Inbox.recv.Goals as goal

pub recv_as-requires-clause-rule : goal.recv_as-requires-clause-rule
recv_as-requires-clause-rule g c = (takes _ _ (ap (λ k. k.takes) c.args.self.now.part), λ items views h at. tt)
