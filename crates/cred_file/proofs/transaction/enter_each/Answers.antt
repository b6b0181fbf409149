use Rattle.std.proofs.Common.{◌∙◌, arith, rules, subst, sym}
use Rattle.sqlite.specs.{Held.state, State.HasCleanDisk}
use Rattle.sqlite.proofs.StateLemmas.{survives_then}
use Rattle.cred_file.specs.{Cells.cells_of, Transactions.IsUnderWay, Transactions.added_mark}
use Rattle.cred_file.proofs.Joined.{AreEntered, all_entered, none_entered, one_entered}
use Rattle.cred_file.proofs.SoFar.{all_so_far, none_so_far, one_added, so_far}
use Rattle.cred_file.proofs.transaction.enter_each.Goals as goal

pub loop-name-init : goal.loop-name-init
loop-name-init g c =
    let f = added_mark c.args.given.now in
    record {
      same = search rules;
      entered = subst (AreEntered c.args.book.now c.args.more.now c.args.book.now) (search rules) (none_entered c.args.book.now c.args.more.now);
      survives = search rules;
      under = λ clean first marks begun.
          subst (λ rest. IsUnderWay (state g.S.Store c.args.tx.now.conn.now) first (cells_of c.args.book.now (so_far f marks c.args.more.now rest))) (search rules)
          (subst (λ n. IsUnderWay (state g.S.Store c.args.tx.now.conn.now) first (cells_of c.args.book.now n)) (sym (none_so_far f marks c.args.more.now)) begun);
    }

pub loop-name-preserved : goal.loop-name-preserved
loop-name-preserved g c =
    let was = c.loop-name.invariant in
    let mid = state g.S.Store c.loop-name.tx.conn.now in
    let new = state g.S.Store c.enter_one.new.tx.conn.now in
    let one = c.in_ok-enter_one.ensures.book in
    record {
      same = c.enter_one.ensures.same_reference ∙ was.same;
      entered = one_entered _ _ _ _ _ _ _ _ _ was.entered c.in-Some.ensures.steps c.stored.ensures one.1;
      survives = survives_then _ mid new _ _ _ (λ _ db none. none) (λ _ db none. none) was.survives c.enter_one.ensures.survives;
      under = λ clean first marks begun.
          let early : HasCleanDisk mid = omega (arith, c.enter_one.ensures.survives.clean, clean) in
          one_added mid new (added_mark c.args.given.now) marks first c.args.more.now c.loop-name.book c.enter_one.new.book _ _ _ _ _ _ was.entered.are c.in-Some.ensures.steps one.0 one.1 c.at-mark.ensures
          (c.in_ok-enter_one.ensures.entered clean) (was.under early first marks begun);
    }

pub returns-clause-book : goal.returns-clause-book
returns-clause-book g c = all_entered _ _ _ _ c.loop-name.invariant.entered c.in-None.ensures.steps.0

pub returns-clause-entered : goal.returns-clause-entered
returns-clause-entered g c clean first marks begun =
    subst (λ n. IsUnderWay (state g.S.Store c.loop-name.tx.conn.now) first (cells_of c.loop-name.book n)) (all_so_far (added_mark c.args.given.now) marks c.args.more.now _ c.in-None.ensures.steps.0)
    (c.loop-name.invariant.under clean first marks begun)
