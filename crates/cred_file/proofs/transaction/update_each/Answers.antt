use Rattle.std.proofs.Common.{◌∙◌, arith, rules, subst}
use Rattle.sqlite.specs.Held.{state}
use Rattle.sqlite.proofs.StateLemmas.{survives_then}
use Rattle.std.specs.FinMap as fin
use Rattle.cred_file.specs.{Cells.cell, Cells.mark_at, Cells.renewed_with, Keeps.Has, Transactions.MakesWithin, Transactions.changed_mark}
use Rattle.cred_file.proofs.SoFar.{AreUpdated, all_updated, none_updated, one_updated}
use Rattle.cred_file.proofs.transaction.update_each.Goals as goal

pub loop-name-init : goal.loop-name-init
loop-name-init g c =
    let s = state g.S.Store c.args.tx.now.conn.now in
    let f = changed_mark c.args.given.now in
    let held = mark_at c.args.marks.now in
    record {
      same = search rules;
      updated = subst (AreUpdated s s f held c.args.changed.now) (search rules) (none_updated s f held c.args.changed.now);
      survives = search rules;
    }

pub loop-name-preserved : goal.loop-name-preserved
loop-name-preserved g c =
    let was = c.loop-name.invariant in
    let mid = state g.S.Store c.loop-name.tx.conn.now in
    let new = state g.S.Store c.write_stored.new.tx.conn.now in
    let mark = c.renewed_with-mark.ensures ∙ (λ i. renewed_with (c.at-in-loop-name.ensures i) (c.at.ensures i)) in
    record {
      same = c.write_stored.ensures.same_reference ∙ was.same;
      updated = one_updated _ mid new (changed_mark c.args.given.now) (mark_at c.args.marks.now) c.args.changed.now _ _ _ _ _ was.updated c.in-Some.ensures.steps c.stored.ensures (λ clean. omega (arith, c.write_stored.ensures.survives.clean, clean))
          (λ clean. subst (λ n. MakesWithin mid new (Has c.in-Some.name.now) (λ b. fin.insert b c.in-Some.name.now (cell c.stored.result n))) mark (c.in_ok-write_stored.ensures.written clean));
      survives = survives_then _ mid new _ _ _ (λ _ db none. none) (λ _ db none. none) was.survives c.write_stored.ensures.survives;
    }

pub returns-clause-updated : goal.returns-clause-updated
returns-clause-updated g c clean = all_updated _ _ (changed_mark c.args.given.now) (mark_at c.args.marks.now) c.args.changed.now _ c.loop-name.invariant.updated c.in-None.ensures.steps.0 clean
