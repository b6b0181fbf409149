use Rattle.std.proofs.Common.{refl, ◌∙◌}
use Rattle.cred_cli.proofs.StepLemmas.{stays_done, commits_idle, commits_done, line_of_reply}
use Rattle.cred_cli.proofs.answer.commit.Goals as goal

pub returns-in_default-clause-done : goal.returns-in_default-clause-done
returns-in_default-clause-done g c = stays_done c.bad.result _ _ _ _ (commits_idle _ _ _ _ c.in_default.ensures.ticket c.close.ensures.closed) c.bad.ensures

pub returns-clause-done : goal.returns-clause-done
returns-clause-done g c =
    rw (commits_done _ _ _ _ _ _ _ c.in-Ok-commit.reply c.in-Some.ensures.ticket c.close.ensures.closed c.in-Ok.ensures.worked c.in-Ok-commit.ensures) (c.reply_line.ensures ∙ line_of_reply c.in-Ok-commit.reply, refl, refl)
