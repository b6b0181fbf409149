use Rattle.cred_desk.proofs.kept_desk.KeptDesk.give_up.Goals as goal

pub returns-clause-known : goal.returns-clause-known
returns-clause-known g c = λ k s lt. rw (← c.end-left.ensures.rest) (c.cover.ensures.known k s lt)
