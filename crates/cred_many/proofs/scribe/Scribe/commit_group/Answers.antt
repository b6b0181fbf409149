use Rattle.std.proofs.Common.{rules}
use Rattle.cred_many.specs.Scribe.{AreClosed, entries_of}
use Rattle.cred_many.proofs.{Groups.answered_together, Uses.closed_all}
use Rattle.cred_many.proofs.Groups.{adds_together}
use Rattle.cred_many.proofs.scribe.Scribe.commit_group.Goals as goal

pub invariant_of-self-clause-history : goal.invariant_of-self-clause-history
invariant_of-self-clause-history g c = rw c.conclude_all.ensures.same (answered_together _ g.J.ServiceId.service _ _ (g.K.Host.book c.args.self.now.keeper) _ c.args.group.changed _ _ _ _ _ _ _ _ _ _ _ c.requires.going c.requires.group c.in-Ok.ensures.whole.0 c.in-Some.ensures (search rules)
    c.conclude_all.ensures.told (search rules) c.args.self.now.history)

pub returns-in-Ok-clause-turns : goal.returns-in-Ok-clause-turns
returns-in-Ok-clause-turns g c =
    let closed : AreClosed (entries_of c.args.group.works.items) c.args.self.now.output.pending c.in-Some.left = search rules in
    λ going. rw c.conclude_all.ensures.same (closed_all _ _ _ closed)

pub returns-in-Ok-clause-adds : goal.returns-in-Ok-clause-adds
returns-in-Ok-clause-adds g c = rw c.conclude_all.ensures.same (adds_together _ g.J.ServiceId.service _ _ (g.K.Host.book c.args.self.now.keeper) _ c.args.group.changed _ _ _ _ _ _ _ _ _ _ _ c.requires.going c.requires.group c.in-Ok.ensures.whole.0 c.in-Some.ensures (search rules)
    c.conclude_all.ensures.told (search rules))

pub invariant_of-self-in-Err-clause-history : goal.invariant_of-self-in-Err-clause-history
invariant_of-self-in-Err-clause-history g c = rw c.in-Err.ensures.whole.1 c.args.self.now.history
