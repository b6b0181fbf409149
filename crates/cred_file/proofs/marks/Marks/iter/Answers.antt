use Rattle.std.proofs.Common.{◌∙◌}
use Rattle.cred_file.proofs.Marked.{entries_as}
use Rattle.cred_file.proofs.marks.Marks.iter.Goals as goal

pub returns : goal.returns
returns c = c.iter.ensures.rest ∙ entries_as _ c.self.invariant _ c.self.view_is
