use Rattle.std.proofs.Common.{None}
use Rattle.cred_book.specs.Names.{name_cmp}
use Rattle.cred_book.proofs.Registered.{sorted_of}
use Rattle.cred_file.proofs.Marked.{written}
use Rattle.cred_file.proofs.marks.Marks.forget.Goals as goal

pub invariant_of-self : goal.invariant_of-self
invariant_of-self c = sorted_of name_cmp _ c.remove-taken.ensures.ordered

pub returns : goal.returns
returns c = written _ c.self.invariant _ c.self.view_is _ (invariant_of-self c) _ None c.remove-taken.ensures.updates.0
