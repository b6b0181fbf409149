use Rattle.std.proofs.Common.{arith, inl, inr, ap, subst, sym, ◌∙◌}
use Rattle.sqlite.specs.{Held.state, State.HasCleanDisk, Tree.Trees}
use Rattle.sqlite_trees.specs.View.{IsClean, IsQuiet}
use Rattle.cred_file.specs.{Keeps.HoldsBook, Keeps.Keeps, Kept.cells, Table.StandsFor}
use Rattle.cred_file.proofs.NoFault.{for_want}
use Rattle.crash_laws.specs.Crashes.{asked_of}
use Rattle.crash_laws.proofs.{Answered.open_if_sound, Runs.run_opened, Runs.run_unopened}
use Rattle.crash_laws.proofs.crash.run.Goals as goal

pub returns-in_default-clause-run : goal.returns-in_default-clause-run
unfolding asked_of
returns-in_default-clause-run g c =
    let law = g.met.M.Store in
    let store = c.args.store in
    run_unopened g.M.Store store store (omega arith) (λ clean db may. law.settled store db (open_if_sound (g.M.Store.view store) (law.broken_if_shut store) (c.requires.fresh clean).sound) may)

pub returns-in-Err-clause-run : goal.returns-in-Err-clause-run
unfolding asked_of
returns-in-Err-clause-run g c =
    let law = g.met.M.Store in
    let store = c.args.store in
    let quiet = c.in-Err.ensures.unharmed in
    run_unopened g.M.Store store c.in-Err.store quiet.clean (λ clean db may. law.settled store db (open_if_sound (g.M.Store.view store) (law.broken_if_shut store) (c.requires.fresh (omega (arith, clean, quiet.clean))).sound) (quiet.outcomes db may))

pub returns-in-Ok-open-clause-run : goal.returns-in-Ok-open-clause-run
returns-in-Ok-open-clause-run g c =
    let store = c.args.store in
    let opened = c.in-Ok-open in
    let new = c.make_all-answers.new.book in
    let same = c.close.ensures.same in
    run_opened g.M.Store store c.into_store.result opened.book new _ (omega (arith, c.in-Ok-over.ensures.clean, opened.ensures.kept.clean))
    (λ clean.
    let early : HasCleanDisk (state g.M.Store c.in-Ok-over.conn) = omega (arith, clean, opened.ensures.kept.clean) in
    let first : IsClean (g.M.Store.view store) = omega (arith, early, c.in-Ok-over.ensures.clean) in
    subst (λ (t : Trees). StandsFor (t 0) (cells opened.book)) (c.in-Ok-over.ensures.trees early ∙ (c.requires.fresh first).clean) (opened.ensures.found clean).stands)
    opened.ensures.whole c.make_all-answers.ensures.made
    (subst (λ k. Keeps g.M.Store k (cells new) new.lost) same c.close.ensures.kept)
    (subst (λ k. IsQuiet g.M.Store.view g.M.Store.faults g.M.Store.recovers g.M.Store.is_shielded k.store c.into_store.result) same c.into_store.ensures.quiet)

pub returns-in-Err-open-clause-refused : goal.returns-in-Err-open-clause-refused
returns-in-Err-open-clause-refused g c clean book held few =
    let refused = c.in-Err-open in
    let old = state g.M.Store c.in-Ok-over.conn in
    let late : HasCleanDisk (state g.M.Store refused.conn) = omega (arith, clean, c.into_store-in-Err-open.ensures.quiet.clean) in
    let early : HasCleanDisk old = omega (arith, late, refused.ensures.left.clean) in
    let first : IsClean (g.M.Store.view c.args.store) = omega (arith, early, c.in-Ok-over.ensures.clean) in
    let trees = c.in-Ok-over.ensures.trees early ∙ (c.requires.fresh first).clean in
    let opens = c.in-Ok-over.ensures.opens early in
    for_want old (state g.M.Store refused.conn) book few (subst (λ (t : Trees). HoldsBook t book) (sym trees) held) (opens.1 opens.0.is_open).0 refused.why (refused.ensures.refused late)

pub returns-in-Err-open-clause-run : goal.returns-in-Err-open-clause-run
unfolding asked_of
returns-in-Err-open-clause-run g c =
    let law = g.met.M.Store in
    let store = c.args.store in
    let conn = c.in-Ok-over.conn in
    let refused = c.in-Err-open in
    let quiet = c.into_store-in-Err-open.ensures.quiet in
    run_unopened g.M.Store store c.into_store-in-Err-open.result (omega (arith, c.in-Ok-over.ensures.clean, refused.ensures.left.clean, quiet.clean)) (λ clean db may.
    let late : HasCleanDisk (state g.M.Store refused.conn) = omega (arith, clean, quiet.clean) in
    let early : HasCleanDisk (state g.M.Store conn) = omega (arith, late, refused.ensures.left.clean) in
    let first : IsClean (g.M.Store.view store) = omega (arith, early, c.in-Ok-over.ensures.clean) in
    let opens = (c.in-Ok-over.ensures.opens early).0 in
    let before : g.M.Store.recovers conn.store db = elim (refused.ensures.left.crash late db (quiet.outcomes db may)) [ inl may ↦ may | inr never ↦ absurd never ] in
    law.settled conn.store db opens.is_open before ∙ ap (λ d. d.trees) (sym opens.clean) ∙ c.in-Ok-over.ensures.trees early ∙ (c.requires.fresh first).clean)
