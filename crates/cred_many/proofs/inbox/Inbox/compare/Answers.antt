use Rattle.std.proofs.Common.{ap, ◌∙◌}
use Rattle.cred_many.proofs.Inboxes.{joins, learns}
use Rattle.cred_many.proofs.inbox.Inbox.compare.Goals as goal

pub absorb-requires-clause-rule : goal.absorb-requires-clause-rule
absorb-requires-clause-rule g c = joins _ _ _ _ (ap (λ k. k.sends) c.args.reader.part) (ap (λ k. k.takes) c.args.self.part)

pub learn_as-requires-clause-rule : goal.learn_as-requires-clause-rule
learn_as-requires-clause-rule g c = learns _ _ (ap (λ k. k.sends) c.absorb.ensures.rule) (ap (λ k. k.takes) c.absorb.ensures.rule) (ap (λ k. k.got.ended) c.absorb.ensures.rule ∙ c.requires.ended)
