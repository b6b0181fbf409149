use Rattle.cred_book.proofs.Telling.{told, kept}
use Rattle.cred_book.proofs.laws.an_answer_tells_of_one_account.Goals as goal

pub returns : goal.returns
returns c = record { tells = told; keeps = kept }
