use Rattle.std.proofs.Common.{true, false, sym, ◌∙◌}
use Rattle.cred_many.proofs.{Serving.answered, Telling.forgiving_counted, Telling.forgiving_line, Telling.forgiving_stays, Telling.nobody_forgiven}
use Rattle.cred_many.specs.Scribe.{IsCountedAt}
use Rattle.cred_many.proofs.{Serving.adds_answer, Telling.forgiving_at, Telling.nobody_at}
use Rattle.cred_many.proofs.scribe.Scribe.forgive.Goals as goal

pub invariant_of-self-clause-history : goal.invariant_of-self-clause-history
invariant_of-self-clause-history g c =
    let book = g.K.Host.book c.args.self.now.keeper in
    let there = sym c.has_account.ensures ∙ c.if-has_account.true in
    answered _ g.J.ServiceId.service _ _ (g.K.Host.book c.args.self.now.keeper) _ c.args.line.now _ _ c.args.place _ _ _ _ _ _ _ c.requires.ready c.answer.ensures.came c.answer.ensures.closed c.answer.ensures.told c.args.self.now.history
    (forgiving_stays g.K.Host.capacity book c.args.name.now c.args.line.now.operation c.requires.asked)
    (forgiving_line g.K.Host.capacity true book c.args.name.now c.args.line.now.operation c.requires.asked there)
    (forgiving_counted 0 true _ _ book c.args.name.now c.args.line.now.operation c.requires.asked there (c.forgive.ensures.counted 0))

pub invariant_of-self-2-clause-history : goal.invariant_of-self-2-clause-history
invariant_of-self-2-clause-history g c =
    let book = g.K.Host.book c.args.self.now.keeper in
    let there = sym c.has_account.ensures ∙ c.if-has_account.false in
    answered _ g.J.ServiceId.service _ _ (g.K.Host.book c.args.self.now.keeper) _ c.args.line.now _ _ c.args.place _ _ _ _ _ _ _ c.requires.ready c.answer-2.ensures.came c.answer-2.ensures.closed c.answer-2.ensures.told c.args.self.now.history
    (forgiving_stays g.K.Host.capacity book c.args.name.now c.args.line.now.operation c.requires.asked)
    (c.account_reply_line-answer.ensures ∙ forgiving_line g.K.Host.capacity false book c.args.name.now c.args.line.now.operation c.requires.asked there)
    (nobody_forgiven _ book c.args.name.now c.args.line.now.operation c.requires.asked there)

pub returns-then-has_account-clause-adds : goal.returns-then-has_account-clause-adds
returns-then-has_account-clause-adds g c = λ now.
    let book = g.K.Host.book c.args.self.now.keeper in
    let there = sym c.has_account.ensures ∙ c.if-has_account.true in
    adds_answer _ g.J.ServiceId.service _ _ (g.K.Host.book c.args.self.now.keeper) _ c.args.line.now _ _ c.args.place _ _ _ _ _ _ _ c.requires.ready c.answer.ensures.came c.answer.ensures.closed c.answer.ensures.told (IsCountedAt now c.args.self.now.tries c.forgive.new.self book)
    (forgiving_at now true _ _ book c.args.name.now c.args.line.now.operation c.requires.asked there (c.forgive.ensures.counted now))
    (forgiving_stays g.K.Host.capacity book c.args.name.now c.args.line.now.operation c.requires.asked)
    (forgiving_line g.K.Host.capacity true book c.args.name.now c.args.line.now.operation c.requires.asked there)
    (forgiving_counted now true _ _ book c.args.name.now c.args.line.now.operation c.requires.asked there (c.forgive.ensures.counted now))

pub returns-clause-adds : goal.returns-clause-adds
returns-clause-adds g c = λ now.
    let book = g.K.Host.book c.args.self.now.keeper in
    let there = sym c.has_account.ensures ∙ c.if-has_account.false in
    adds_answer _ g.J.ServiceId.service _ _ (g.K.Host.book c.args.self.now.keeper) _ c.args.line.now _ _ c.args.place _ _ _ _ _ _ _ c.requires.ready c.answer-2.ensures.came c.answer-2.ensures.closed c.answer-2.ensures.told (IsCountedAt now c.args.self.now.tries c.args.self.now.tries book)
    (nobody_at now _ book c.args.name.now c.args.line.now.operation c.requires.asked there)
    (forgiving_stays g.K.Host.capacity book c.args.name.now c.args.line.now.operation c.requires.asked)
    (c.account_reply_line-answer.ensures ∙ forgiving_line g.K.Host.capacity false book c.args.name.now c.args.line.now.operation c.requires.asked there)
    (nobody_forgiven _ book c.args.name.now c.args.line.now.operation c.requires.asked there)
