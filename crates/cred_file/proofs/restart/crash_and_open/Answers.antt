use Rattle.std.proofs.Common.{arith}
use Rattle.std.proofs.lemmas.{Option.IfSome_then, Result.IfErr-weaker, Result.IfOk-weaker}
use Rattle.sqlite.specs.{Held.state, State.HasCleanDisk}
use Rattle.cred_file.specs.Kept.{cells}
use Rattle.cred_file.proofs.FoundAgain.{found_again}
use Rattle.cred_file.proofs.restart.crash_and_open.Goals as goal

pub returns-clause-kept : goal.returns-clause-kept
returns-clause-kept g c =
    IfSome_then c.reopen.result c.reopen.ensures.found (λ r found. IfOk-weaker r _ _ (λ b may clean.
    let left = may clean in
    let was_clean : HasCleanDisk (state g.S.Store c.close.result) = omega (arith, left.clean, c.into_store.ensures.quiet.clean) in
    found_again g.S.Store c.close.result _ (cells b) _ c.close.ensures.kept was_clean left.db (c.into_store.ensures.quiet.outcomes left.db left.left) left.holds.stands) found)

pub returns-clause-refused : goal.returns-clause-refused
returns-clause-refused g c =
    IfSome_then c.reopen.result c.reopen.ensures.refused (λ r refused. IfErr-weaker r _ _ (λ e may clean.
    let found = may clean in
    let was_clean : HasCleanDisk (state g.S.Store c.close.result) = omega (arith, found.clean, c.into_store.ensures.quiet.clean) in
    let left = c.close.ensures.kept.left was_clean found.db (c.into_store.ensures.quiet.outcomes found.db found.left) in
    found.for_want left.0 left.2 (c.close.ensures.kept.few left.0 left.1)) refused)
