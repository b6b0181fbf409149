use Rattle.cred_book.proofs.Updating.{kept, looked, refused, replied}
use Rattle.cred_book.proofs.laws.updates_are_one_history.Goals as goal

pub returns : goal.returns
returns g c = record { replies = replied; store = kept; look = looked; refused = refused }
