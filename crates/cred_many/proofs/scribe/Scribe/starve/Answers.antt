use Rattle.std.proofs.Common.{◌≡◌, Some, slice_get, refl, rules}
use Rattle.cred_many.specs.Scribe.{IsPending, numbers}
use Rattle.cred_many.proofs.Turns.{absent_turn, answered_turn, ready_turn}
use Rattle.cred_many.proofs.Adding.{same_one}
use Rattle.cred_many.proofs.scribe.Scribe.starve.Goals as goal

pub returns-in-Some-clause-turn : goal.returns-in-Some-clause-turn
returns-in-Some-clause-turn g c =
    let there : slice_get (numbers c.args.self.now.output.pending) c.in-Some.place ≡ Some c.args.line.number = search rules in
    answered_turn _ _ c.in-Some.place _ _ there c.refuse.ensures.closed

pub returns-in-Some-clause-turns : goal.returns-in-Some-clause-turns
returns-in-Some-clause-turns g c =
    let there : slice_get (numbers c.args.self.now.output.pending) c.in-Some.place ≡ Some c.args.line.number = search rules in
    ready_turn _ _ c.in-Some.place _ _ there c.refuse.ensures.closed

pub returns-in_default-clause-turns : goal.returns-in_default-clause-turns
returns-in_default-clause-turns g c =
    let absent : IsPending c.args.line.number (numbers c.args.self.now.output.pending) → ⊥ = search rules in
    λ going. absent_turn _ _ _ absent refl

pub returns-then-is_some-clause-adds : goal.returns-then-is_some-clause-adds
returns-then-is_some-clause-adds g c = same_one _ _ _

pub returns-in_default-clause-adds : goal.returns-in_default-clause-adds
returns-in_default-clause-adds g c = same_one _ _ _
