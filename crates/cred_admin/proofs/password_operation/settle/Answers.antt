use Rattle.cred_admin.proofs.Records.{no_account, done_whole}
use Rattle.cred_admin.proofs.password_operation.settle.Goals as goal

pub returns-in_default : goal.returns-in_default
returns-in_default g c = no_account _ _ (rw c.accounts.ensures at c.in_default.ensures.1)

pub returns-in-Ok-commit_try : goal.returns-in-Ok-commit_try
returns-in-Ok-commit_try g c =
    done_whole _ _ _ _ _ _ c.in-Ok-work.ensures.worked c.in-Ok.ensures.0 (rw c.accounts.ensures at c.in-Ok.ensures.1) c.in-Ok-commit_try.ensures.done
