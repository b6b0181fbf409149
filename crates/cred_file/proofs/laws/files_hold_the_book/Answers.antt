use Rattle.cred_file.proofs.Opened.{held}
use Rattle.cred_file.proofs.laws.files_hold_the_book.Goals as goal

pub returns : goal.returns
returns g c = λ image old new book. held image _ _ book
