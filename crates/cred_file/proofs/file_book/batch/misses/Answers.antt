use Rattle.std.proofs.Common.{false, rules, subst, sym, true}
use Rattle.cred_file.proofs.Joined.{AreAll, all_so, none_yet, one_other, one_so}
use Rattle.cred_file.proofs.file_book.batch.misses.Goals as goal

pub loop-name-init : goal.loop-name-init
loop-name-init c = subst (AreAll true c.args.book.now c.args.changed.now) (search rules) (none_yet true c.args.book.now c.args.changed.now)

pub loop-name-preserved : goal.loop-name-preserved
loop-name-preserved c = one_so true _ _ _ _ _ _ c.loop-name.invariant c.in-Some.ensures.steps (sym c.if-not-contains.ensures)

pub returns-then-not-contains : goal.returns-then-not-contains
returns-then-not-contains c = one_other true false _ _ _ _ _ _ c.loop-name.invariant c.in-Some.ensures.steps (sym c.if-not-contains.ensures)

pub returns : goal.returns
returns c = all_so true _ _ _ c.loop-name.invariant c.in-None.ensures.steps.0
