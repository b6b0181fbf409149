use Rattle.cred_many.proofs.Concerns.{answers_same, book_same}
use Rattle.cred_many.proofs.laws.a_mark_concerns_its_account_alone.Goals as goal

pub returns : goal.returns
returns c = record { answers = answers_same; book = book_same }
