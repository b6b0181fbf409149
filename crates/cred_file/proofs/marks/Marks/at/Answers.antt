use Rattle.std.proofs.Common.{sym, ap, unwrap_or, ◌∙◌}
use Rattle.cred_file.specs.Cells.{unmarked}
use Rattle.cred_file.proofs.Marked.{found}
use Rattle.cred_file.proofs.marks.Marks.at.Goals as goal

pub returns-in-Some : goal.returns-in-Some
returns-in-Some c = ap (λ o. unwrap_or o unmarked) (c.in-Some.ensures.value ∙ sym (found _ c.self.invariant _ c.self.view_is _))

pub returns-in-None : goal.returns-in-None
returns-in-None c = c.none.ensures ∙ ap (λ o. unwrap_or o unmarked) (c.in-None.ensures.value ∙ sym (found _ c.self.invariant _ c.self.view_is _))
