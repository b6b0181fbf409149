use Rattle.std.proofs.Common.{arith}
use Rattle.cred_book.proofs.Kept.{entries_end, kept_whole, view_whole}
use Rattle.cred_book.proofs.book.Book.from_register.Goals as goal

pub invariant_of-result : goal.invariant_of-result
invariant_of-result c =
    kept_whole _ _ (entries_end _ _ _ c.loop-name.invariant.all c.in-None.ensures.steps.0) _ (omega (arith, c.if-len-gt-BOOK_CAPACITY.false, c.len.ensures.len)) c.loop-name.invariant.room

pub returns-clause-equal : goal.returns-clause-equal
returns-clause-equal c = view_whole _ _ (entries_end _ _ _ c.loop-name.invariant.all c.in-None.ensures.steps.0)
