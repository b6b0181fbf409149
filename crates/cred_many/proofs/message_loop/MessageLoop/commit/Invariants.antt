use Rattle.std.proofs.Common.{◌≡◌, None}
use Rattle.cred_many.specs.{Scribe.entries_of, Turns.UseTurns}
use Rattle.cred_many.proofs.message_loop.MessageLoop.commit.Given as goal

-- those so far have used their turns, and no line came
abbrev pub invariant-loop-hashed : goal.invariant-loop-hashed
invariant-loop-hashed g l =
    (l.scribe.output.fault ≡ None → (l.initial.scribe.output.fault ≡ None) × UseTurns (entries_of l.yielded) l.initial.scribe.output.pending l.scribe.output.pending)
    × (l.scribe.came ≡ l.initial.scribe.came)
