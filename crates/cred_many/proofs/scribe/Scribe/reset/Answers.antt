use Rattle.std.proofs.Common.{ap, refl, ◌∙◌}
use Rattle.cred_book.specs.Works.{name_of}
use Rattle.cred_many.proofs.{Commits.done_reset, Commits.reset_counted, Limiting.effect_held, Serving.answered}
use Rattle.cred_many.specs.Scribe.{IsCountedAt}
use Rattle.cred_many.proofs.{Adding.quick_counts, Commits.reset_at, Serving.adds_answer}
use Rattle.cred_many.proofs.scribe.Scribe.reset.Goals as goal

pub invariant_of-self-clause-history : goal.invariant_of-self-clause-history
invariant_of-self-clause-history g c =
    let put = rw (c.name-name.ensures, c.request.ensures) at c.in-Ok.ensures.done in
    let whole = done_reset c.args.line.operation g.K.Host.capacity (g.K.Host.book c.args.self.now.keeper) _ c.args.worked.now c.in-Some.stored c.in-Ok.reply c.requires.asked c.requires.reset c.in-Some.ensures put in answered _ g.J.ServiceId.service _ _ (g.K.Host.book c.args.self.now.keeper) _ c.args.line _ _ c.args.place _ _ _ _ _ _ _ c.requires.ready c.answer.ensures.came c.answer.ensures.closed c.answer.ensures.told c.args.self.now.history
    (ap (λ o. o.1) whole) (c.reply_line.ensures ∙ ap (λ o. o.0) whole)
    (reset_counted c.args.line.operation _ c.args.worked.now c.in-Some.stored c.in-Ok.reply _ _ _ 0 c.requires.asked c.requires.reset c.in-Some.ensures put (effect_held 0 _ _ _ _ _ _ _ (c.reset.ensures.counted 0) refl (c.name-name.ensures ∙ ap name_of c.request.ensures) refl))

pub returns-in-Ok-clause-adds : goal.returns-in-Ok-clause-adds
returns-in-Ok-clause-adds g c = λ now.
    let put = rw (c.name-name.ensures, c.request.ensures) at c.in-Ok.ensures.done in
    let whole = done_reset c.args.line.operation g.K.Host.capacity (g.K.Host.book c.args.self.now.keeper) _ c.args.worked.now c.in-Some.stored c.in-Ok.reply c.requires.asked c.requires.reset c.in-Some.ensures put in
    let counts = reset_at c.args.line.operation (g.K.Host.book c.args.self.now.keeper) c.args.worked.now c.in-Some.stored c.in-Ok.reply _ c.args.self.now.tries c.reset.new.self now c.requires.asked c.requires.reset c.in-Some.ensures put (effect_held now _ _ _ _ _ _ _ (c.reset.ensures.counted now) refl (c.name-name.ensures ∙ ap name_of c.request.ensures) refl) in
    adds_answer _ g.J.ServiceId.service _ _ (g.K.Host.book c.args.self.now.keeper) _ c.args.line _ _ c.args.place _ _ _ _ _ _ _ c.requires.ready c.answer.ensures.came c.answer.ensures.closed c.answer.ensures.told (IsCountedAt now c.args.self.now.tries c.reset.new.self (g.K.Host.book c.args.self.now.keeper)) counts
    (ap (λ o. o.1) whole) (c.reply_line.ensures ∙ ap (λ o. o.0) whole) (now, counts)

pub returns-in-Err-clause-adds : goal.returns-in-Err-clause-adds
returns-in-Err-clause-adds g c = λ now.
    quick_counts _ _ _ now c.args.self.now.tries _ (g.K.Host.book c.args.self.now.keeper) c.refuse.ensures.same_tries (rw c.in-Err.ensures.refused at c.refuse.ensures.adds)

pub invariant_of-self-in-Err-clause-history : goal.invariant_of-self-in-Err-clause-history
invariant_of-self-in-Err-clause-history g c = rw c.in-Err.ensures.refused c.args.self.now.history
