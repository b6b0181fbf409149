use Rattle.std.proofs.{Common.◌≡◌, Common.◌≤◌, Common.◌^◌, Common.IfSome, Common.arith, Common.inr, Common.length, Common.sym, Common.◌∙◌, lemmas.Option.IfSome_then}
use Rattle.cred_cli.specs.Script.{lines_of}
use Rattle.cred_many.proofs.scribe.Scribe.end.Goals as goal

pub left-requires-clause-cause : goal.left-requires-clause-cause
left-requires-clause-cause g c =
    let told : IfSome g.J.ServiceId.service.input (λ all. c.in-Whole.lines ≡ length (lines_of all)) = c.in-Whole.ensures in
    inr (IfSome_then g.J.ServiceId.service.input told (λ bytes is all. c.if-lines-self.true (is ∙ sym all)))

pub left-requires-then-self-lt-MOST_LINES-clause-cause : goal.left-requires-then-self-lt-MOST_LINES-clause-cause
left-requires-then-self-lt-MOST_LINES-clause-cause g c =
    let told : IfSome g.J.ServiceId.service.input (λ all. 2 ^ 63 ≤ length (lines_of all)) = c.in-TooLong.ensures in
    inr (IfSome_then g.J.ServiceId.service.input told (λ bytes least all. absurd (omega (arith, least, all, c.if-self-lt-MOST_LINES.true))))
