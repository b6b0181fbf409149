use Rattle.std.proofs.Common.{rules, subst}
use Rattle.cred_file.proofs.Joined.{AreReplaced, all_entered, none_replaced, one_replaced, still_there}
use Rattle.cred_file.proofs.transaction.replace_each.Goals as goal

pub loop-name-init : goal.loop-name-init
loop-name-init c = subst (AreReplaced c.args.book.now c.args.changed.now c.args.book.now) (search rules) (none_replaced c.args.book.now c.args.changed.now c.requires)

pub replace-requires : goal.replace-requires
replace-requires c = still_there _ _ _ _ _ _ _ c.loop-name.invariant c.in-Some.ensures.steps

pub loop-name-preserved : goal.loop-name-preserved
loop-name-preserved c = one_replaced _ _ _ _ _ _ _ _ _ c.loop-name.invariant c.in-Some.ensures.steps c.stored.ensures c.replace.ensures

pub returns : goal.returns
returns c = all_entered _ _ _ _ c.loop-name.invariant.entered c.in-None.ensures.steps.0
