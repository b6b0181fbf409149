use Rattle.std.proofs.Common.{◌∙◌, sym}
use Rattle.cred_book.proofs.Kept.{entries_of}
use Rattle.cred_book.proofs.book.Book.iter.Goals as goal

pub returns : goal.returns
returns c = c.iter.ensures.rest ∙ c.deref.ensures.value ∙ sym (entries_of _ c.accounts.invariant.sorted _ (c.accounts.view_is ∙ c.self.view_is))
