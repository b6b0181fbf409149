use Rattle.std.proofs.Common.{arith}
use Rattle.cred_argon.specs.Layout.{list_of}
use Rattle.cred_argon.proofs.LayoutLemmas.{below_four, diagonal_step_is}
use Rattle.cred_argon.proofs.permutation.diagonal_step.Goals as goal

pub returns : goal.returns
returns c =
    let first = rw (c.left_by_three.ensures, c.left_by_one.ensures, c.left_by_two.ensures) at c.mixed.ensures.first in
    let second = rw (c.left_by_three-2.ensures, c.left_by_one-2.ensures, c.left_by_two-2.ensures) at c.mixed.ensures.second in
    rw (c.left_by_one-3.ensures, c.left_by_three-3.ensures, c.left_by_two-3.ensures, c.left_by_one-4.ensures, c.left_by_three-4.ensures, c.left_by_two-4.ensures)
    (below_four _
    (diagonal_step_is (list_of 0 c.args.x) _ _ _ _ (first 1 (omega arith)) (first 2 (omega arith)) (first 3 (omega arith)) (first 0 (omega arith)))
    (diagonal_step_is (list_of 1 c.args.x) _ _ _ _ (first 5 (omega arith)) (first 6 (omega arith)) (first 7 (omega arith)) (first 4 (omega arith)))
    (diagonal_step_is (list_of 2 c.args.x) _ _ _ _ (second 1 (omega arith)) (second 2 (omega arith)) (second 3 (omega arith)) (second 0 (omega arith)))
    (diagonal_step_is (list_of 3 c.args.x) _ _ _ _ (second 5 (omega arith)) (second 6 (omega arith)) (second 7 (omega arith)) (second 4 (omega arith))))
