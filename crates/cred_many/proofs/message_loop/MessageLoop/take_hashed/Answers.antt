use Rattle.cred_many.proofs.Uses.{one_used}
use Rattle.cred_many.proofs.message_loop.MessageLoop.take_hashed.Goals as goal

pub returns-then-is_apart-clause-turns : goal.returns-then-is_apart-clause-turns
returns-then-is_apart-clause-turns g c = λ going. one_used _ c.args.hashed _ _ (c.commit.ensures.turns going)

pub returns-in-Err-clause-turns : goal.returns-in-Err-clause-turns
returns-in-Err-clause-turns g c = λ going.
    rw c.in-Err.ensures.items (one_used _ c.args.hashed _ _ (rw c.in-Err.ensures.value_returned at (c.commit-in-Err.ensures.turns going)))
