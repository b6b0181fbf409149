use Rattle.std.proofs.Common.{arith}
use Rattle.cred_argon.specs.Layout.{list_of}
use Rattle.cred_argon.proofs.LayoutLemmas.{below_four, column_step_is}
use Rattle.cred_argon.proofs.permutation.column_step.Goals as goal

pub returns : goal.returns
returns c =
    let first = c.mixed.ensures.first in
    let second = c.mixed.ensures.second in
    below_four _
    (column_step_is (list_of 0 c.args.x) _ _ _ _ (first 0 (omega arith)) (first 1 (omega arith)) (first 2 (omega arith)) (first 3 (omega arith)))
    (column_step_is (list_of 1 c.args.x) _ _ _ _ (first 4 (omega arith)) (first 5 (omega arith)) (first 6 (omega arith)) (first 7 (omega arith)))
    (column_step_is (list_of 2 c.args.x) _ _ _ _ (second 0 (omega arith)) (second 1 (omega arith)) (second 2 (omega arith)) (second 3 (omega arith)))
    (column_step_is (list_of 3 c.args.x) _ _ _ _ (second 4 (omega arith)) (second 5 (omega arith)) (second 6 (omega arith)) (second 7 (omega arith)))
