use Rattle.std.proofs.lemmas.Result.{IfErr-weaker, IfOk-weaker}
use Rattle.cred_file.specs.Kept.{cells}
use Rattle.cred_keep.proofs.Copied.{uncopied}
use Rattle.cred_keep.proofs.copy.copy_book.Goals as goal

pub returns-in-Ok-clause-copied : goal.returns-in-Ok-clause-copied
returns-in-Ok-clause-copied g c =
    rw c.close.ensures.same (λ clean taken. IfOk-weaker c.copy_into-target.result.1 _ _ (λ count held. (cells c.in-Ok.book, c.in-Ok.ensures.found clean, held.0, held.1)) (c.copy_into-target.ensures.copied taken))

pub returns-in-Ok-clause-refused : goal.returns-in-Ok-clause-refused
returns-in-Ok-clause-refused g c =
    rw c.close.ensures.same
    (IfErr-weaker c.copy_into-target.result.1 _ _ (uncopied g.S.Store c.args.source c.in-Ok.book.conn g.D.Store c.args.target c.copy_into-target.result.0 (cells c.in-Ok.book) c.in-Ok.ensures.found) c.copy_into-target.ensures.refused)
