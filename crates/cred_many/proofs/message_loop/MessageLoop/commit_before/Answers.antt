use Rattle.cred_many.proofs.Uses.{all_used_up}
use Rattle.cred_many.proofs.message_loop.MessageLoop.commit_before.Goals as goal

pub returns-then-is_behind-clause-turns : goal.returns-then-is_behind-clause-turns
returns-then-is_behind-clause-turns g c = λ going. rw c.commit.ensures.none (all_used_up _ _ _ (c.commit.ensures.turns going))
