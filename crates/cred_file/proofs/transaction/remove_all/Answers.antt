use Rattle.std.proofs.Common.{rules, subst}
use Rattle.cred_file.proofs.Joined.{AreRemoved, all_removed, none_removed, one_removed}
use Rattle.cred_file.proofs.transaction.remove_all.Goals as goal

pub loop-name-init : goal.loop-name-init
loop-name-init c = subst (AreRemoved c.args.book.now c.args.more.now c.args.book.now) (search rules) (none_removed c.args.book.now c.args.more.now)

pub loop-name-preserved : goal.loop-name-preserved
loop-name-preserved c = one_removed _ _ _ _ _ _ _ _ c.loop-name.invariant c.in-Some.ensures.steps c.remove.ensures

pub returns : goal.returns
returns c = all_removed _ _ _ _ c.loop-name.invariant c.in-None.ensures.steps.0
