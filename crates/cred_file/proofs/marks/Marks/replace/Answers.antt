use Rattle.std.proofs.Common.{◌∙◌, ap, is_some, Some}
use Rattle.std.proofs.lemmas.Bool.{false≢true}
use Rattle.cred_book.specs.Names.{name_cmp}
use Rattle.cred_book.proofs.Registered.{sorted_of}
use Rattle.cred_file.proofs.Marked.{has, still, written}
use Rattle.cred_file.proofs.marks.Marks.replace.Goals as goal

pub unreachable-requires : goal.unreachable-requires
unreachable-requires c = absurd (false≢true (ap is_some (c.in-None.ensures.value) ∙ has _ c.self.invariant _ c.self.view_is _ ∙ c.requires))

pub invariant_of-self : goal.invariant_of-self
invariant_of-self c =
    let put = c.get_mut.follows.holds c.args.mark in
    sorted_of name_cmp _ put.4

pub returns-clause-marks : goal.returns-clause-marks
returns-clause-marks c =
    let put = c.get_mut.follows.holds c.args.mark in
    let there = has _ c.self.invariant _ c.self.view_is _ ∙ c.requires in
    written _ c.self.invariant _ c.self.view_is _ (invariant_of-self c) _ (Some c.args.mark) (put.3 there).0

pub returns-clause-room : goal.returns-clause-room
returns-clause-room c =
    let put = c.get_mut.follows.holds c.args.mark in
    let there = has _ c.self.invariant _ c.self.view_is _ ∙ c.requires in
    still _ c.self.invariant _ c.self.view_is _ (invariant_of-self c) _ c.args.mark (put.3 there).0
