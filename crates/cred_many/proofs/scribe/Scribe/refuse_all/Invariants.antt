use Rattle.std.proofs.Common.{◌≡◌, None}
use Rattle.cred_many.specs.{Scribe.entries_of, Turns.UseTurns}
use Rattle.cred_many.specs.Scribe.{AddsSome, IsNotSentAway, answered_by, passed_of}
use Rattle.cred_many.proofs.scribe.Scribe.refuse_all.Given as goal

-- those so far have used their turns, and are answered if they were open
abbrev pub invariant-loop-hashed : goal.invariant-loop-hashed
invariant-loop-hashed g l = (l.self.tries ≡ l.fn.self.tries) × (l.self.output.fault ≡ None → UseTurns (entries_of l.yielded) l.fn.self.output.pending l.self.output.pending)
    × AddsSome IsNotSentAway (passed_of l.fn.self.tries) (answered_by g.K.Host.capacity g.J.ServiceId.service g.K.Host.book g.W.Write.contents l.fn.self.keeper l.fn.self.output l.fn.self.came l.fn.self.tries) (answered_by g.K.Host.capacity g.J.ServiceId.service g.K.Host.book g.W.Write.contents l.self.keeper l.self.output l.self.came l.self.tries)
    × (l.self.came ≡ l.fn.self.came)
