use Rattle.std.proofs.Common.{◌≡◌}
use Rattle.crossbeam_channel.specs.Claims.{view}
use Rattle.cred_many.specs.Inbox.{HasTaken}
use Rattle.cred_many.proofs.message_loop.MessageLoop.gather.Given as goal

-- the end of the channel is the same, and the scribe has taken the received lines
abbrev pub invariant-loop : goal.invariant-loop
invariant-loop g l = (l.inbox.end ≡ l.fn.inbox.end)
    × (HasTaken (view l.fn.inbox.pass).got l.fn.scribe.output.fault l.fn.scribe.came → HasTaken (view l.inbox.pass).got l.scribe.output.fault l.scribe.came)
