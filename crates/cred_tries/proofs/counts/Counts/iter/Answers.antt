use Rattle.std.proofs.Common.{◌∙◌, sym}
use Rattle.cred_tries.proofs.Kept.{entries_of}
use Rattle.cred_tries.proofs.counts.Counts.iter.Goals as goal

pub returns-clause-entries : goal.returns-clause-entries
returns-clause-entries c = c.iter.ensures.rest ∙ sym (entries_of _ c.self.invariant _ c.self.view_is)
