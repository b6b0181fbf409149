use Rattle.std.proofs.{Common.arith, Common.sym, Common.◌∙◌, Common.take, Common.◌++◌, Common.◌∷◌, Common.[], lemmas.List.take_all, lemmas.List.take_more_set, lemmas.List.take-append-le, lemmas.List.length-append, lemmas.List.length-take-le}
use Rattle.cred_cli.specs.Events.{most_kept}
use Rattle.cred_cli.proofs.progress.LineStart.push.Goals as goal

-- there is room for one more
pub returns-then-self-lt-KEPT : goal.returns-then-self-lt-KEPT
returns-then-self-lt-KEPT c =
    let kept = take c.self.inside.len c.self.inside.bytes in
    take_more_set c.self.inside.bytes c.self.inside.len c.args.byte (omega arith)
    ∙ rw (← c.self.view_is) (sym (take_all most_kept (kept ++ c.args.byte ∷ []) (omega (arith, length-append kept (c.args.byte ∷ []), length-take-le c.self.inside.len c.self.inside.bytes (omega arith)))))

-- what is kept has its full length
pub returns-else-self-lt-KEPT : goal.returns-else-self-lt-KEPT
returns-else-self-lt-KEPT c =
    let kept = take c.self.inside.len c.self.inside.bytes in
    let size = length-take-le c.self.inside.len c.self.inside.bytes (omega arith) in
    rw (← c.self.view_is) (sym (take-append-le most_kept kept (c.args.byte ∷ []) (omega (arith, size)) ∙ take_all most_kept kept (omega (arith, size))))
