use Rattle.std.proofs.Common.{◌∙◌, ap, is_some, Some}
use Rattle.std.proofs.lemmas.Bool.{false≢true}
use Rattle.cred_book.specs.Names.{name_cmp}
use Rattle.cred_book.proofs.Registered.{sorted_of}
use Rattle.cred_tries.proofs.Kept.{has_of, written_of}
use Rattle.cred_tries.proofs.counts.Counts.replace.Goals as goal

pub unreachable-requires : goal.unreachable-requires
unreachable-requires c = absurd (false≢true (ap is_some c.in-None.ensures.value ∙ has_of _ c.self.invariant _ c.self.view_is _ ∙ c.requires))

pub invariant_of-self : goal.invariant_of-self
invariant_of-self c = sorted_of name_cmp _ (c.get_mut.follows.holds c.args.count).4

pub returns : goal.returns
returns c =
    let there = has_of _ c.self.invariant _ c.self.view_is _ ∙ c.requires in
    written_of _ c.self.invariant _ c.self.view_is _ (invariant_of-self c) _ (Some _) ((c.get_mut.follows.holds c.args.count).3 there).0
