use Rattle.std.proofs.Common.{◌∙◌, ◌≤◌, ap, is_some, Some, sym, subst}
use Rattle.std.proofs.lemmas.Bool.{false≢true}
use Rattle.std.specs.FinMap as map
use Rattle.cred_book.specs.Accounts.{register_capacity}
use Rattle.cred_book.proofs.Registered.{kept_of, written_of, has_of}
use Rattle.cred_book.proofs.register.AccountTreeAccountMap.replace.Goals as goal

pub unreachable-requires : goal.unreachable-requires
unreachable-requires c = absurd (false≢true (ap is_some c.in-None.ensures.value ∙ has_of _ c.self.invariant _ c.self.view_is _ ∙ c.requires))

pub invariant_of-self : goal.invariant_of-self
invariant_of-self c =
    let written = c.get_mut.follows.holds c.replace.new.self in
    kept_of _ written.4 (subst (λ n. n ≤ register_capacity) (sym written.2) c.self.invariant.few)

pub returns : goal.returns
returns c =
    let written = c.get_mut.follows.holds c.replace.new.self in
    let there = has_of _ c.self.invariant _ c.self.view_is _ ∙ c.requires in
    written_of _ c.self.invariant _ c.self.view_is _ (invariant_of-self c) _ (Some _) (written.3 there).0 ∙ ap (map.insert c.args.self.now c.args.name.now) c.replace.ensures
