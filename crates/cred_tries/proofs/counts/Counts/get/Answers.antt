use Rattle.std.proofs.Common.{◌∙◌, sym}
use Rattle.cred_tries.proofs.Kept.{get_of}
use Rattle.cred_tries.proofs.counts.Counts.get.Goals as goal

pub returns-in-Some : goal.returns-in-Some
returns-in-Some c = c.in-Some.ensures.value ∙ sym (get_of _ c.self.invariant _ c.self.view_is _)

pub returns-in-None : goal.returns-in-None
returns-in-None c = c.in-None.ensures.value ∙ sym (get_of _ c.self.invariant _ c.self.view_is _)
