use Rattle.std.proofs.{Common.arith, Common.◌∙◌, lemmas.List.length-map}
use Rattle.cred_cli.proofs.Events.{first_taken}
use Rattle.cred_cli.proofs.event.first_pieces.Goals as goal

pub returns : goal.returns
returns c = first_taken _ _ c.loop-i.rest c.loop-i.invariant.cut (length-map c.loop-i.first.items _ ∙ omega (arith, c.loop-i.invariant.count))
