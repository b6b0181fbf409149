use Rattle.std.proofs.Common.{ap}
use Rattle.cred_many.proofs.Inboxes.{sends}
use Rattle.cred_many.proofs.inbox.ReaderEnd.send_line.Goals as goal

pub send_as-requires-clause-rule : goal.send_as-requires-clause-rule
send_as-requires-clause-rule g c = (sends _ _ _ _ (ap (λ k. k.sends) c.args.self.now.part) (c.requires.going, c.requires.next), λ items views h at. tt)
