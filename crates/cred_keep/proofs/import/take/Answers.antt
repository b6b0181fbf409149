use Rattle.cred_admin.specs.Marked.{marked_book}
use Rattle.cred_keep.proofs.import.take.Goals as goal

pub returns-in-Ok : goal.returns-in-Ok
returns-in-Ok g c =
    let done = c.in-Ok.ensures.done in
    rw c.in-Made.is (done.1, λ i. marked_book (done.2 i) (c.in-Ok.ensures.marks i))
