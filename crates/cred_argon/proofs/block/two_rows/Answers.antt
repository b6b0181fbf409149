use Rattle.std.proofs.Common.{arith}
use Rattle.cred_argon.proofs.LayoutLemmas.{below_eight, xored_at}
use Rattle.cred_argon.proofs.block.two_rows.Goals as goal

pub returns-clause-first : goal.returns-clause-first
returns-clause-first c =
    rw c.side_by_side.ensures.first
    (below_eight _
    (xored_at c.args.x.now c.args.y.now _ _ _ (c.xored.ensures 0 (omega arith)) (omega arith))
    (xored_at c.args.x.now c.args.y.now _ _ _ (c.xored.ensures 1 (omega arith)) (omega arith))
    (xored_at c.args.x.now c.args.y.now _ _ _ (c.xored.ensures 2 (omega arith)) (omega arith))
    (xored_at c.args.x.now c.args.y.now _ _ _ (c.xored.ensures 3 (omega arith)) (omega arith))
    (xored_at c.args.x.now c.args.y.now _ _ _ (c.xored-2.ensures 0 (omega arith)) (omega arith))
    (xored_at c.args.x.now c.args.y.now _ _ _ (c.xored-2.ensures 1 (omega arith)) (omega arith))
    (xored_at c.args.x.now c.args.y.now _ _ _ (c.xored-2.ensures 2 (omega arith)) (omega arith))
    (xored_at c.args.x.now c.args.y.now _ _ _ (c.xored-2.ensures 3 (omega arith)) (omega arith)))

pub returns-clause-second : goal.returns-clause-second
returns-clause-second c =
    rw c.side_by_side.ensures.second
    (below_eight _
    (xored_at c.args.x.now c.args.y.now _ _ _ (c.xored.ensures 4 (omega arith)) (omega arith))
    (xored_at c.args.x.now c.args.y.now _ _ _ (c.xored.ensures 5 (omega arith)) (omega arith))
    (xored_at c.args.x.now c.args.y.now _ _ _ (c.xored.ensures 6 (omega arith)) (omega arith))
    (xored_at c.args.x.now c.args.y.now _ _ _ (c.xored.ensures 7 (omega arith)) (omega arith))
    (xored_at c.args.x.now c.args.y.now _ _ _ (c.xored-2.ensures 4 (omega arith)) (omega arith))
    (xored_at c.args.x.now c.args.y.now _ _ _ (c.xored-2.ensures 5 (omega arith)) (omega arith))
    (xored_at c.args.x.now c.args.y.now _ _ _ (c.xored-2.ensures 6 (omega arith)) (omega arith))
    (xored_at c.args.x.now c.args.y.now _ _ _ (c.xored-2.ensures 7 (omega arith)) (omega arith)))
