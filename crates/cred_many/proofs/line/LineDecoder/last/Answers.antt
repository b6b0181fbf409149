use Rattle.std.proofs.{Common.◌≡◌, Common.◌<◌, Common.arith, Common.length, lemmas.Bool.Decides.nat_tests, lemmas.Option.IfSome_then}
use Rattle.cred_many.specs.Reading.{place}
use Rattle.cred_many.proofs.Lines.{count_ended, cut_came, with_last}
use Rattle.cred_many.proofs.line.LineDecoder.last.Goals as goal

pub returns-then-is_empty-clause-whole : goal.returns-then-is_empty-clause-whole
returns-then-is_empty-clause-whole g c =
    let none : length c.bytes.result.now ≡ 0 = grind (arith, nat_tests) in
    count_ended g.J.ServiceId.service.input (place c.args.self.now.start c.args.self.now.number) c.requires (rw c.bytes.ensures at none)

pub cut-requires : goal.cut-requires
cut-requires g c =
    let some : 0 < length c.bytes.result.now = grind (arith, nat_tests) in
    cut_came g.J.ServiceId.service _ _ (IfSome_then g.J.ServiceId.service.input (with_last g.J.ServiceId.service.input (place c.args.self.now.start c.args.self.now.number) c.requires (rw c.bytes.ensures at some)) (λ all w. w.0))

pub returns-clause-whole : goal.returns-clause-whole
returns-clause-whole g c =
    let some : 0 < length c.bytes.result.now = grind (arith, nat_tests) in
    IfSome_then g.J.ServiceId.service.input (with_last g.J.ServiceId.service.input (place c.args.self.now.start c.args.self.now.number) c.requires (rw c.bytes.ensures at some)) (λ all w. w.1)
