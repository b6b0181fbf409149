use Rattle.cred_book.proofs.Kept.{none_from}
use Rattle.cred_book.proofs.book.Book.new.Goals as goal

pub returns-clause-empty : goal.returns-clause-empty
returns-clause-empty c = rw c.in_ok-entries.ensures.items none_from
