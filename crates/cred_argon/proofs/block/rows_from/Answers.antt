use Rattle.std.proofs.Common.{[], ◌∷◌}
use Rattle.cred_argon.proofs.{LayoutLemmas.below_eight, Whole.rows_words}
use Rattle.cred_argon.proofs.block.rows_from.Goals as goal

pub returns : goal.returns
returns c =
    rows_words c.args.x.now c.args.y.now (c.two_rows.result.0 ∷ c.two_rows.result.1 ∷ c.two_rows-2.result.0 ∷ c.two_rows-2.result.1 ∷ c.two_rows-3.result.0 ∷ c.two_rows-3.result.1 ∷ c.two_rows-4.result.0 ∷ c.two_rows-4.result.1 ∷ []) c.permuted.result c.args.row c.requires
    (below_eight _ c.two_rows.ensures.first c.two_rows.ensures.second c.two_rows-2.ensures.first c.two_rows-2.ensures.second c.two_rows-3.ensures.first c.two_rows-3.ensures.second c.two_rows-4.ensures.first c.two_rows-4.ensures.second) c.permuted.ensures
