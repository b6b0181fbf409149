use Rattle.std.proofs.Common.{◌≡◌, ◌∙◌, Result, Ok, Err, Some, None}
use Rattle.std.specs.Prelude.{IfErr}
use Rattle.std.specs.FinMap as map
use Rattle.cred_book.specs.Names.{name_cmp}
use Rattle.cred_book.proofs.Registered.{sorted_of}
use Rattle.cred_tries.proofs.Kept.{get_of, written_of}
use Rattle.cred_tries.proofs.counts.Counts.insert.Goals as goal

pub invariant_of-self : goal.invariant_of-self
invariant_of-self c = sorted_of name_cmp _ c.insert.ensures.ordered

pub invariant_of-self-2 : goal.invariant_of-self-2
invariant_of-self-2 c = sorted_of name_cmp _ c.insert.ensures.ordered

pub returns-clause-inserted : goal.returns-clause-inserted
returns-clause-inserted c =
    written_of _ c.self.invariant _ c.self.view_is _ (sorted_of name_cmp _ c.insert.ensures.ordered) _ (Some _) c.in_ok-insert.ensures.updates.0

if_err : {A E : Type 0} (P : Type 0) (result : Result A E) → P → IfErr result (λ _. P)
if_err P (Ok x) holds = tt
if_err P (Err e) holds = holds

pub returns-in_err-insert-clause-absent : goal.returns-in_err-insert-clause-absent
returns-in_err-insert-clause-absent c =
    if_err (map.get c.args.self.now c.args.name ≡ None) c.from_residual.result (get_of _ c.self.invariant _ c.self.view_is _ ∙ c.in_err-insert.ensures.absent)
