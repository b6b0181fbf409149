use Rattle.std.proofs.Common.{◌≡◌, ◌++◌, ◌∷◌, [], rules, inr, arith}
use Rattle.cred_many.specs.Scribe.{unseen}
use Rattle.cred_many.proofs.{Serving.line_missing, Serving.opened, Serving.still, Turns.opened_ready}
use Rattle.cred_many.proofs.Serving.{none_opened, none_still}
use Rattle.cred_many.proofs.scribe.Scribe.admit.Goals as goal

pub invariant_of-self : goal.invariant_of-self
invariant_of-self g c = record {
  history = still _ _ _ _ _ _ _ _ _ c.requires c.args.self.now.history;
  cause = λ source. ∣ inr (line_missing g.J.ServiceId.service _ c.args.line.now _ c.number-number.ensures.came (omega arith)) ∣₁;
}

pub invariant_of-self-then-is_err : goal.invariant_of-self-then-is_err
invariant_of-self-then-is_err g c =
    let same : c.push.new.self ≡ c.args.self.now.output.pending = search rules in
    record { history = rw same (still _ _ _ _ _ _ _ _ _ c.requires c.args.self.now.history); cause = λ source. ∣ tt ∣₁ }

pub invariant_of-self-2-clause-history : goal.invariant_of-self-2-clause-history
invariant_of-self-2-clause-history g c = opened _ _ _ _ _ _ _ _ _ c.number-number.result _ (search rules) (search rules) (search rules) c.args.self.now.history

pub returns-clause-ready : goal.returns-clause-ready
returns-clause-ready g c =
    let more : c.push.new.self ≡ c.args.self.now.output.pending ++ unseen c.args.line.now.number ∷ [] = search rules in
    opened_ready _ _ _ _ _ c.requires more (search rules)

pub returns-then-number-self-clause-adds : goal.returns-then-number-self-clause-adds
returns-then-number-self-clause-adds g c = λ list times h. h

pub returns-then-number-self-2-clause-adds : goal.returns-then-number-self-2-clause-adds
returns-then-number-self-2-clause-adds g c = none_still _ _ _ _ _ _ _ _ _ c.requires

pub returns-then-is_err-clause-adds : goal.returns-then-is_err-clause-adds
returns-then-is_err-clause-adds g c =
    let same : c.push.new.self ≡ c.args.self.now.output.pending = search rules in
    rw same (none_still _ _ _ _ _ _ _ _ _ c.requires)

pub returns-clause-adds : goal.returns-clause-adds
returns-clause-adds g c = none_opened _ _ _ _ _ _ _ _ _ c.number-number.result _ (search rules) (search rules) (search rules)
