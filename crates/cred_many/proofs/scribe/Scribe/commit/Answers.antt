use Rattle.std.proofs.Common.{◌≡◌, Some, slice_get, refl, rules, inl}
use Rattle.cred_many.specs.Scribe.{IsPending, numbers}
use Rattle.cred_many.proofs.{Serving.still, Turns.absent_turn, Turns.answered_turn, Turns.either_turn, Turns.ready_turn, Turns.some_pending}
use Rattle.cred_many.proofs.{Adding.none_one, Adding.same_one, Serving.none_still}
use Rattle.cred_many.proofs.scribe.Scribe.commit.Goals as goal

pub returns-in_err-place-clause-turns : goal.returns-in_err-place-clause-turns
returns-in_err-place-clause-turns g c =
    let absent : IsPending c.args.hashed.0.number (numbers c.args.self.now.output.pending) → ⊥ = rw (c.number.ensures.number, c.into_parts-line.ensures.line) at c.in_err-place.ensures.absent in
    λ going. absent_turn _ _ _ absent refl

pub returns-then-is_reset-clause-turn : goal.returns-then-is_reset-clause-turn
returns-then-is_reset-clause-turn g c =
    let there : slice_get (numbers c.args.self.now.output.pending) c.in_ok-place.place ≡ Some c.args.hashed.0.number = search rules in
    λ none. answered_turn _ _ c.in_ok-place.place _ _ there c.reset.ensures.closed

pub returns-then-is_reset-clause-turns : goal.returns-then-is_reset-clause-turns
returns-then-is_reset-clause-turns g c =
    let there : slice_get (numbers c.args.self.now.output.pending) c.in_ok-place.place ≡ Some c.args.hashed.0.number = search rules in
    ready_turn _ _ c.in_ok-place.place _ _ there c.reset.ensures.closed

pub invariant_of-self : goal.invariant_of-self
invariant_of-self g c = record {
  history = still _ _ _ _ _ _ _ _ _ (search rules) c.args.self.now.history;
  cause = λ source. ∣ inl (some_pending _ _ _ c.in_ok-place.ensures.there) ∣₁;
}

pub returns-clause-turn : goal.returns-clause-turn
returns-clause-turn g c =
    let there : slice_get (numbers c.args.self.now.output.pending) c.in_ok-place.place ≡ Some c.args.hashed.0.number = search rules in
    λ none. answered_turn _ _ c.in_ok-place.place _ _ there (c.commit_whole.ensures.closed none)

pub returns-clause-turns : goal.returns-clause-turns
returns-clause-turns g c =
    let there : slice_get (numbers c.args.self.now.output.pending) c.in_ok-place.place ≡ Some c.args.hashed.0.number = search rules in
    either_turn _ _ c.in_ok-place.place _ _ there c.commit_whole.result c.commit_whole.ensures.closed (rw c.into_parts-line.ensures.line at c.commit_whole.ensures.turns)

pub returns-then-is_reset-clause-clock : goal.returns-then-is_reset-clause-clock
returns-then-is_reset-clause-clock g c = c.reset.ensures.clock c.args.now

pub returns-then-is_some-clause-adds : goal.returns-then-is_some-clause-adds
returns-then-is_some-clause-adds g c = same_one _ _ _

pub returns-in_err-place-clause-adds : goal.returns-in_err-place-clause-adds
returns-in_err-place-clause-adds g c = same_one _ _ _

pub returns-then-is_reset-clause-adds : goal.returns-then-is_reset-clause-adds
returns-then-is_reset-clause-adds g c = c.reset.ensures.adds c.args.now

pub returns-then-not-has_seen-clause-adds : goal.returns-then-not-has_seen-clause-adds
returns-then-not-has_seen-clause-adds g c = none_one _ _ _ _ (none_still _ _ _ _ _ _ _ _ _ (search rules))
