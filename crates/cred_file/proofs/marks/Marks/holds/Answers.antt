use Rattle.std.proofs.Common.{◌∙◌}
use Rattle.cred_file.proofs.Marked.{has}
use Rattle.cred_file.proofs.marks.Marks.holds.Goals as goal

pub returns : goal.returns
returns c = c.contains_key.ensures ∙ has _ c.self.invariant _ c.self.view_is _
