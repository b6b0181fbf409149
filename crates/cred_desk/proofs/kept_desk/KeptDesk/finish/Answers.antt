use Rattle.cred_desk.proofs.kept_desk.KeptDesk.finish.Goals as goal

pub returns-clause-known : goal.returns-clause-known
returns-clause-known g c =
    let known = rw c.deref.ensures.value at c.cover.ensures.known in
    λ k s lt. rw (← c.end-left.ensures.rest) (known k s lt)
