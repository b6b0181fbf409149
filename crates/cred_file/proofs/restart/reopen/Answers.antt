use Rattle.std.proofs.Common.{arith, sym, subst, ◌∙◌}
use Rattle.sqlite.specs.{Held.state, State.HasCleanDisk, Tree.Trees}
use Rattle.sqlite_trees.specs.View.{IsClean}
use Rattle.cred_file.specs.Keeps.{HoldsBook}
use Rattle.cred_file.proofs.{FoundAgain.of_err, NoFault.for_want}
use Rattle.cred_file.proofs.restart.reopen.Goals as goal

pub returns-clause-refused : goal.returns-clause-refused
returns-clause-refused g c =
    let view = g.S.Store.view in
    let old = state g.S.Store c.in-Ok-over.conn in
    of_err _ _ _ c.open.result
    (λ e unopened survived clean.
    let was_clean : HasCleanDisk old = omega (arith, clean, survived.clean) in
    let came_clean : IsClean (view c.crash_and_reopen.new.self) = omega (arith, was_clean, c.in-Ok-over.ensures.clean) in
    let trees = c.in-Ok-over.ensures.trees was_clean ∙ c.in-Ok.ensures.fresh.clean in
    let opens = c.in-Ok-over.ensures.opens was_clean in
    record {
      clean = omega (arith, came_clean, c.in-Ok.ensures.clean);
      db = (view c.crash_and_reopen.new.self).committed;
      left = c.in-Ok.ensures.found came_clean;
      for_want = λ book holds few. for_want old (state g.S.Store e.1) book few (subst (λ (t : Trees). HoldsBook t book) (sym trees) holds) (opens.1 opens.0.is_open).0 e.0 (unopened clean);
    })
    c.open.ensures.refused c.open.ensures.left
