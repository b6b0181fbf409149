use Rattle.cred_book.proofs.Changes.{committed_as_judged, stays, told}
use Rattle.cred_book.proofs.laws.change_is_committed.Goals as goal

pub returns : goal.returns
returns c = record { change = told; no_change = stays; judgement = committed_as_judged }
