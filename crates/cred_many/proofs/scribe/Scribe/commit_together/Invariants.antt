use Rattle.std.proofs.Common.{◌≡◌, None}
use Rattle.cred_many.specs.Scribe.{AddsSome, IsGroup, IsNotSentAway, answered_by, entries_of, passed_of}
use Rattle.cred_many.proofs.Uses.{Gathered}
use Rattle.cred_many.proofs.scribe.Scribe.commit_together.Given as goal

-- the gathered lines are a group, whose changes aren't made yet, and nothing more is counted; the
-- other lines come back, or have used their turns and are answered
abbrev pub invariant-loop-hashed : goal.invariant-loop-hashed
invariant-loop-hashed g l =
    (IsGroup g.K.Host.capacity g.J.ServiceId.service l.self.tries (g.K.Host.book l.self.keeper) l.group.changed (entries_of l.group.works.items) l.group.text.items)
    × (l.self.tries ≡ l.fn.self.tries)
    × (l.self.output.fault ≡ None → (l.fn.self.output.fault ≡ None) × Gathered l.yielded l.others.items l.group.works.items l.fn.self.output.pending l.self.output.pending)
    × AddsSome IsNotSentAway (passed_of l.fn.self.tries) (answered_by g.K.Host.capacity g.J.ServiceId.service g.K.Host.book g.W.Write.contents l.fn.self.keeper l.fn.self.output l.fn.self.came l.fn.self.tries) (answered_by g.K.Host.capacity g.J.ServiceId.service g.K.Host.book g.W.Write.contents l.self.keeper l.self.output l.self.came l.self.tries)
    × (l.self.came ≡ l.fn.self.came)
