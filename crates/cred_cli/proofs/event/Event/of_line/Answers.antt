use Rattle.std.proofs.Common.{rules, Ok, Err, map}
use Rattle.cred_cli.proofs.Events.{line_read}
use Rattle.cred_cli.proofs.event.Event.of_line.Goals as goal

pub returns-in-Ok-clause-event : goal.returns-in-Ok-clause-event
returns-in-Ok-clause-event c = line_read c.args.line.now (map (λ s. s.now) c.deref.result.now) (Ok c.in-Ok.event) c.if-is_too_long.ensures (search rules) c.in-Ok.ensures.event

pub returns-in-Err-clause-event : goal.returns-in-Err-clause-event
returns-in-Err-clause-event c = line_read c.args.line.now (map (λ s. s.now) c.deref.result.now) (Err c.in-Err.why) c.if-is_too_long.ensures (search rules) c.in-Err.ensures.event
