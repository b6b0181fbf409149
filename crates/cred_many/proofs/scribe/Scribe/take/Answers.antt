use Rattle.std.proofs.Common.{refl}
use Rattle.cred_many.proofs.{Limiting.asked_as, Serving.sent_away, Turns.opened_closed, Turns.opened_keeps, Turns.taken}
use Rattle.std.proofs.Common.{◌∙◌}
use Rattle.cred_many.proofs.{Adding.counted_from, Adding.none_one, Adding.none_then_one, Adding.quick_counts, Adding.same_one, Serving.adds_sent}
use Rattle.cred_many.proofs.scribe.Scribe.take.Goals as goal

pub invariant_of-self-clause-history : goal.invariant_of-self-clause-history
invariant_of-self-clause-history g c =
    let sent = asked_as _ _ _ _ _ _ c.operation.ensures.operation c.in-Some.ensures.sent in
    sent_away _ g.J.ServiceId.service _ _ (g.K.Host.book c.admit.new.self.keeper) _ c.args.line _ _ c.in_ok-place.place _ _ _ _ _ _ _ c.in_ok-place.ensures.ready c.answer_later.ensures.came c.answer_later.ensures.closed c.answer_later.ensures.told c.admit.new.self.history c.args.now c.in-Some.seconds refl refl sent.0 sent.1

pub returns-in-Some-clause-turns : goal.returns-in-Some-clause-turns
returns-in-Some-clause-turns g c = λ next going. opened_closed _ _ _ c.in_ok-place.place _ _ c.in_ok-place.ensures.opened c.in_ok-place.ensures.ready c.answer_later.ensures.closed

pub returns-in-Whole-clause-turn : goal.returns-in-Whole-clause-turn
returns-in-Whole-clause-turn g c = λ next going none. taken _ c.in_ok-place.place _ _ _ _ c.in_ok-place.ensures.opened c.in_ok-place.ensures.ready (c.job.ensures.closed none)

pub returns-in-Whole-clause-turns : goal.returns-in-Whole-clause-turns
returns-in-Whole-clause-turns g c = λ next going. opened_keeps c.job.result _ _ _ c.in_ok-place.place _ _ _ _ c.in_ok-place.ensures.opened c.in_ok-place.ensures.ready c.in_ok-place.ensures.last c.job.ensures.closed c.job.ensures.looked

pub returns-in-Login-clause-turn : goal.returns-in-Login-clause-turn
returns-in-Login-clause-turn g c = λ next going none. taken _ c.in_ok-place.place _ _ _ _ c.in_ok-place.ensures.opened c.in_ok-place.ensures.ready (c.job-in-Login.ensures.closed none)

pub returns-in-Login-clause-turns : goal.returns-in-Login-clause-turns
returns-in-Login-clause-turns g c = λ next going. opened_keeps c.job-in-Login.result _ _ _ c.in_ok-place.place _ _ _ _ c.in_ok-place.ensures.opened c.in_ok-place.ensures.ready c.in_ok-place.ensures.last c.job-in-Login.ensures.closed c.job-in-Login.ensures.looked

pub returns-in-Forgive-clause-turns : goal.returns-in-Forgive-clause-turns
returns-in-Forgive-clause-turns g c = λ next going. opened_closed _ _ _ c.in_ok-place.place _ _ c.in_ok-place.ensures.opened c.in_ok-place.ensures.ready c.forgive.ensures.closed

pub returns-in-Quick-clause-turn : goal.returns-in-Quick-clause-turn
returns-in-Quick-clause-turn g c = λ next going none. taken _ c.in_ok-place.place _ _ _ _ c.in_ok-place.ensures.opened c.in_ok-place.ensures.ready (c.answer_at_once.ensures.closed going)

pub returns-in-Quick-clause-turns : goal.returns-in-Quick-clause-turns
returns-in-Quick-clause-turns g c = λ next going. opened_closed _ _ _ c.in_ok-place.place _ _ c.in_ok-place.ensures.opened c.in_ok-place.ensures.ready (c.answer_at_once.ensures.closed going)

pub returns-then-is_some-clause-adds : goal.returns-then-is_some-clause-adds
returns-then-is_some-clause-adds g c = same_one _ _ _

pub returns-in_err-place-clause-adds : goal.returns-in_err-place-clause-adds
returns-in_err-place-clause-adds g c = none_one _ _ _ _ c.admit.ensures.adds

pub returns-in-Some-clause-adds : goal.returns-in-Some-clause-adds
returns-in-Some-clause-adds g c =
    let sent = asked_as _ _ _ _ _ _ c.operation.ensures.operation c.in-Some.ensures.sent in
    none_then_one _ _ _ _ _ c.admit.ensures.adds
    (counted_from _ _ _ c.args.now _ _ _ _ _ c.admit.ensures.same_tries c.admit.ensures.book
    (adds_sent _ g.J.ServiceId.service _ _ (g.K.Host.book c.admit.new.self.keeper) _ c.args.line _ _ c.in_ok-place.place _ _ _ _ _ _ _ c.in_ok-place.ensures.ready c.answer_later.ensures.came c.answer_later.ensures.closed c.answer_later.ensures.told c.args.now c.in-Some.seconds refl refl sent.0 sent.1))

pub returns-in-Whole-clause-adds : goal.returns-in-Whole-clause-adds
returns-in-Whole-clause-adds g c = none_then_one _ _ _ _ _ c.admit.ensures.adds (rw (c.send_away.ensures.same c.in_default.is) at (quick_counts _ _ _ c.args.now c.args.self.now.tries _ (g.K.Host.book c.args.self.now.keeper) (c.job.ensures.same_tries ∙ c.send_away.ensures.same c.in_default.is ∙ c.admit.ensures.same_tries) c.job.ensures.adds))

pub returns-in-Login-clause-adds : goal.returns-in-Login-clause-adds
returns-in-Login-clause-adds g c = none_then_one _ _ _ _ _ c.admit.ensures.adds (rw (c.send_away.ensures.same c.in_default.is) at (quick_counts _ _ _ c.args.now c.args.self.now.tries _ (g.K.Host.book c.args.self.now.keeper) (c.job-in-Login.ensures.same_tries ∙ c.send_away.ensures.same c.in_default.is ∙ c.admit.ensures.same_tries) c.job-in-Login.ensures.adds))

pub returns-in-Reset-clause-adds : goal.returns-in-Reset-clause-adds
returns-in-Reset-clause-adds g c = rw (c.send_away.ensures.same c.in_default.is) (none_one _ _ _ _ c.admit.ensures.adds)

pub returns-in-Quick-clause-adds : goal.returns-in-Quick-clause-adds
returns-in-Quick-clause-adds g c = none_then_one _ _ _ _ _ c.admit.ensures.adds (rw (c.send_away.ensures.same c.in_default.is) at (quick_counts _ _ _ c.args.now c.args.self.now.tries _ (g.K.Host.book c.args.self.now.keeper) (c.answer_at_once.ensures.same_tries ∙ c.send_away.ensures.same c.in_default.is ∙ c.admit.ensures.same_tries) c.answer_at_once.ensures.adds))

pub returns-in-Forgive-clause-adds : goal.returns-in-Forgive-clause-adds
returns-in-Forgive-clause-adds g c = none_then_one _ _ _ _ _ c.admit.ensures.adds
    (counted_from _ _ _ c.args.now _ _ _ _ _ c.admit.ensures.same_tries c.admit.ensures.book (rw (c.send_away.ensures.same c.in_default.is) at (c.forgive.ensures.adds c.args.now)))

pub invariant_of-self-in_default-clause-history : goal.invariant_of-self-in_default-clause-history
invariant_of-self-in_default-clause-history g c = rw (c.send_away.ensures.same c.in_default.is) c.admit.new.self.history
