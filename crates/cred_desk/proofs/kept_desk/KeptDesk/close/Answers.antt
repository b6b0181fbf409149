use Rattle.cred_desk.proofs.kept_desk.KeptDesk.close.Goals as goal

pub returns-in-Ok-clause-known : goal.returns-in-Ok-clause-known
returns-in-Ok-clause-known g c =
    let known = rw c.deref.ensures.value at c.in-Ok.ensures.known in
    λ k s lt. rw (← c.end-left.ensures.rest) (known k s lt)

pub returns-in-Err-clause-all : goal.returns-in-Err-clause-all
returns-in-Err-clause-all g c = rw c.deref.ensures.value at c.in-Err.ensures.all
