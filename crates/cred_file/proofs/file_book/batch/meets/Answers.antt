use Rattle.std.proofs.Common.{false, rules, subst, sym, true}
use Rattle.cred_file.proofs.Joined.{AreAll, all_so, none_yet, one_other, one_so}
use Rattle.cred_file.proofs.file_book.batch.meets.Goals as goal

pub loop-name-init : goal.loop-name-init
loop-name-init c = subst (AreAll false c.args.book.now c.args.more.now) (search rules) (none_yet false c.args.book.now c.args.more.now)

pub loop-name-preserved : goal.loop-name-preserved
loop-name-preserved c = one_so false _ _ _ _ _ _ c.loop-name.invariant c.in-Some.ensures.steps (sym c.if-contains.ensures)

pub returns-then-contains : goal.returns-then-contains
returns-then-contains c = one_other false true _ _ _ _ _ _ c.loop-name.invariant c.in-Some.ensures.steps (sym c.if-contains.ensures)

pub returns : goal.returns
returns c = all_so false _ _ _ c.loop-name.invariant c.in-None.ensures.steps.0
