use Rattle.std.proofs.Common.{◌≡◌, [], option_map, refl, rules, subst, sym, ap, unwrap_or, ◌∙◌}
use Rattle.std.proofs.{lemmas.Option.IfSome_then}
use Rattle.cred_book.specs.Works.{name_of}
use Rattle.cred_admin.specs.Statuses.{verdict_line}
use Rattle.cred_many.specs.{LineOperations.IsSound, Served.name_asked, Served.told_verdict, Tries.effect_by, Tries.is_try}
use Rattle.cred_many.specs.declared.tries.Effect.TheVariants as effect
use Rattle.cred_many.proofs.{Commits.commit_counted, Commits.commits_moved, Commits.commits_still, Commits.done_whole, Commits.has_place_at, Commits.hash_needs, Commits.sound_current, Commits.wrong_stays, Limiting.asked_as, Limiting.counted_ok, Limiting.effect_held, Limiting.opens_as, Serving.answered, Serving.sent_away, Turns.looked_turn}
use Rattle.cred_many.specs.Scribe.{IsCountedAt}
use Rattle.cred_many.proofs.{Adding.quick_counts, Commits.commit_at, Serving.adds_answer, Serving.adds_sent}
use Rattle.cred_many.proofs.scribe.Scribe.commit_whole.Goals as goal

pub invariant_of-self-then-is_outdated-clause-history : goal.invariant_of-self-then-is_outdated-clause-history
invariant_of-self-then-is_outdated-clause-history g c = rw (commits_still _ _ _ _ c.in-Ok.ensures.done (sym c.if-is_outdated.ensures), c.send_away.ensures.same c.in_default.is) c.args.self.now.history

pub invariant_of-self-2-clause-history : goal.invariant_of-self-2-clause-history
invariant_of-self-2-clause-history g c =
    let whole = done_whole c.args.line.operation g.K.Host.capacity (g.K.Host.book c.args.self.now.keeper) _ c.args.worked c.in-Ok.verdict c.requires.asked c.requires.kept c.in-Ok.ensures.done (sym c.if-is_outdated.ensures) in answered _ g.J.ServiceId.service _ _ (g.K.Host.book c.args.self.now.keeper) _ c.args.line _ _ c.args.place _ _ _ _ _ _ _ c.requires.ready c.answer.ensures.came c.answer.ensures.closed c.answer.ensures.told c.args.self.now.history
    (ap (λ o. o.1) whole) (c.verdict_line-answer.ensures ∙ ap verdict_line (c.told_verdict.ensures ∙ ap (λ a. told_verdict a c.in-Ok.verdict) c.operation-operation.ensures.operation) ∙ ap (λ o. o.0) whole)
    (commit_counted c.args.line.operation _ _ c.args.worked c.in-Ok.verdict _ _ c.args.now c.requires.asked c.requires.kept c.in-Ok.ensures.done (sym c.if-is_outdated.ensures)
    (effect_held c.args.now _ _ _ _ _ _ _ (counted_ok c.count.result _ c.count.ensures.counted (sym c.is_err.ensures.value ∙ c.if-is_err.false)) (c.send_away.ensures.same c.in_default.is) (c.name.ensures ∙ ap name_of c.request-request.ensures)
    (c.effect_of-effect.ensures ∙ ap (λ a. effect_by (is_try a) c.in-Ok.verdict) c.operation-operation.ensures.operation)))

pub invariant_of-self-clause-history : goal.invariant_of-self-clause-history
invariant_of-self-clause-history g c =
    let sent = asked_as _ _ _ _ _ _ c.operation-operation.ensures.operation c.in-Some.ensures.sent in
    sent_away _ g.J.ServiceId.service _ _ (g.K.Host.book c.args.self.now.keeper) _ c.args.line _ _ c.args.place _ _ _ _ _ _ _ c.requires.ready c.answer_later.ensures.came c.answer_later.ensures.closed c.answer_later.ensures.told c.args.self.now.history c.args.now c.in-Some.seconds refl refl sent.0 sent.1

pub invariant_of-self-then-is_err-clause-history : goal.invariant_of-self-then-is_err-clause-history
invariant_of-self-then-is_err-clause-history g c =
    let same : c.count.new.self ≡ c.send_away.new.self = search rules in
    let wrong : c.effect_of-effect.result ≡ effect.Wrong = search rules in
    let told = c.effect_of-effect.ensures ∙ ap (λ a. effect_by (is_try a) c.in-Ok.verdict) c.operation-operation.ensures.operation in
    let still = wrong_stays (is_try c.args.line.operation) _ _ c.args.worked c.in-Ok.verdict c.in-Ok.ensures.done (sym c.if-is_outdated.ensures) (sym told ∙ wrong) in
    rw (still, same, c.send_away.ensures.same c.in_default.is) c.args.self.now.history

pub count-requires : goal.count-requires
count-requires g c =
    has_place_at c.args.line.operation c.in-Ok.verdict c.args.self.now.tries _ _ (name_asked c.args.line.operation) _ c.args.now (c.send_away.ensures.same c.in_default.is)
    (c.name.ensures ∙ ap name_of c.request-request.ensures ∙ sym (ap (λ o. unwrap_or (option_map name_of o) []) c.requires.asked))
    (c.effect_of-effect.ensures ∙ ap (λ a. effect_by (is_try a) c.in-Ok.verdict) c.operation-operation.ensures.operation)
    (opens_as c.args.self.now.tries c.args.now _ c.args.line.operation c.operation-operation.ensures.operation (c.send_away.ensures.open c.in_default.is))

pub job-requires-clause-current : goal.job-requires-clause-current
job-requires-clause-current g c = rw c.request-request.ensures (sound_current c.args.line.operation _ (subst IsSound c.operation-operation.ensures.operation c.operation-operation.ensures.sound) c.requires.asked)

pub returns-then-is_outdated-clause-again : goal.returns-then-is_outdated-clause-again
returns-then-is_outdated-clause-again g c = IfSome_then c.job.result c.job.ensures.line (λ job same. (same, commits_moved _ _ _ _ c.in-Ok.ensures.done (sym c.if-is_outdated.ensures)))

pub returns-then-is_outdated-clause-turns : goal.returns-then-is_outdated-clause-turns
returns-then-is_outdated-clause-turns g c =
    let still = commits_still _ _ _ _ c.in-Ok.ensures.done (sym c.if-is_outdated.ensures) in
    IfSome_then c.job.result c.job.ensures.looked (λ job looked. looked_turn _ c.args.place _ _ _ _ _ c.requires.ready.there c.requires.seen (commits_moved _ _ _ _ c.in-Ok.ensures.done (sym c.if-is_outdated.ensures)) (rw (c.request-request.ensures, still) at looked))

pub refuse-requires-clause-needs : goal.refuse-requires-clause-needs
refuse-requires-clause-needs g c = hash_needs _ _ _ _ c.requires.asked

pub returns-in-Some-clause-adds : goal.returns-in-Some-clause-adds
returns-in-Some-clause-adds g c =
    let sent = asked_as _ _ _ _ _ _ c.operation-operation.ensures.operation c.in-Some.ensures.sent in
    adds_sent _ g.J.ServiceId.service _ _ (g.K.Host.book c.args.self.now.keeper) _ c.args.line _ _ c.args.place _ _ _ _ _ _ _ c.requires.ready c.answer_later.ensures.came c.answer_later.ensures.closed c.answer_later.ensures.told c.args.now c.in-Some.seconds refl refl sent.0 sent.1

pub returns-in-Err-clause-adds : goal.returns-in-Err-clause-adds
returns-in-Err-clause-adds g c =
    let same = c.send_away.ensures.same c.in_default.is in
    quick_counts _ _ _ c.args.now c.args.self.now.tries _ (g.K.Host.book c.args.self.now.keeper) (c.refuse.ensures.same_tries ∙ same) (rw (c.in-Err.ensures.memory.1, same) at c.refuse.ensures.adds)

pub returns-then-is_outdated-clause-adds : goal.returns-then-is_outdated-clause-adds
returns-then-is_outdated-clause-adds g c =
    let same = c.send_away.ensures.same c.in_default.is in
    let still = commits_still _ _ _ _ c.in-Ok.ensures.done (sym c.if-is_outdated.ensures) in
    quick_counts _ _ _ c.args.now c.args.self.now.tries _ (g.K.Host.book c.args.self.now.keeper) (c.job.ensures.same_tries ∙ same) (rw (still, same) at c.job.ensures.adds)

pub returns-then-is_err-clause-adds : goal.returns-then-is_err-clause-adds
returns-then-is_err-clause-adds g c =
    let same : c.count.new.self ≡ c.send_away.new.self = search rules in
    let tries = same ∙ c.send_away.ensures.same c.in_default.is in
    let wrong : c.effect_of-effect.result ≡ effect.Wrong = search rules in
    let told = c.effect_of-effect.ensures ∙ ap (λ a. effect_by (is_try a) c.in-Ok.verdict) c.operation-operation.ensures.operation in
    let still = wrong_stays (is_try c.args.line.operation) _ _ c.args.worked c.in-Ok.verdict c.in-Ok.ensures.done (sym c.if-is_outdated.ensures) (sym told ∙ wrong) in
    quick_counts _ _ _ c.args.now c.args.self.now.tries _ (g.K.Host.book c.args.self.now.keeper) (c.refuse-then-is_err.ensures.same_tries ∙ tries) (rw (still, tries) at c.refuse-then-is_err.ensures.adds)

pub returns-clause-adds : goal.returns-clause-adds
returns-clause-adds g c =
    let whole = done_whole c.args.line.operation g.K.Host.capacity (g.K.Host.book c.args.self.now.keeper) _ c.args.worked c.in-Ok.verdict c.requires.asked c.requires.kept c.in-Ok.ensures.done (sym c.if-is_outdated.ensures) in
    let counts = commit_at c.args.line.operation _ _ c.args.worked c.in-Ok.verdict _ _ c.args.now c.requires.asked c.requires.kept c.in-Ok.ensures.done (sym c.if-is_outdated.ensures)
    (effect_held c.args.now _ _ _ _ _ _ _ (counted_ok c.count.result _ c.count.ensures.counted (sym c.is_err.ensures.value ∙ c.if-is_err.false)) (c.send_away.ensures.same c.in_default.is) (c.name.ensures ∙ ap name_of c.request-request.ensures)
    (c.effect_of-effect.ensures ∙ ap (λ a. effect_by (is_try a) c.in-Ok.verdict) c.operation-operation.ensures.operation)) in
    adds_answer _ g.J.ServiceId.service _ _ (g.K.Host.book c.args.self.now.keeper) _ c.args.line _ _ c.args.place _ _ _ _ _ _ _ c.requires.ready c.answer.ensures.came c.answer.ensures.closed c.answer.ensures.told (IsCountedAt c.args.now c.args.self.now.tries c.count.new.self (g.K.Host.book c.args.self.now.keeper)) counts
    (ap (λ o. o.1) whole) (c.verdict_line-answer.ensures ∙ ap verdict_line (c.told_verdict.ensures ∙ ap (λ a. told_verdict a c.in-Ok.verdict) c.operation-operation.ensures.operation) ∙ ap (λ o. o.0) whole)
    (c.args.now, counts)

pub invariant_of-self-in-Err-clause-history : goal.invariant_of-self-in-Err-clause-history
invariant_of-self-in-Err-clause-history g c = rw (c.in-Err.ensures.memory.1, c.send_away.ensures.same c.in_default.is) c.args.self.now.history
