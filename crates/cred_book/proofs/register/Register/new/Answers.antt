use Rattle.cred_book.proofs.Kept.{none_from}
use Rattle.cred_book.proofs.register.Register.new.Goals as goal

pub returns : goal.returns
returns c = rw c.new.ensures.empty none_from
