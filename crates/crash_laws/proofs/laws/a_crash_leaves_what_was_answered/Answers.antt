use Rattle.crash_laws.proofs.Left.{left_after}
use Rattle.crash_laws.proofs.laws.a_crash_leaves_what_was_answered.Goals as goal

pub returns : goal.returns
returns g c = left_after g.S.Store
