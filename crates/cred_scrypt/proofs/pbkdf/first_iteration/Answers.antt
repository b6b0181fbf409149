use Rattle.std.proofs.Common.{append_assoc}
use Rattle.cred_scrypt.specs.Pbkdf2.{iteration}
use Rattle.cred_scrypt.proofs.pbkdf.first_iteration.Goals as goal

pub returns : goal.returns
unfolding iteration
returns c pw keyed =
    rw (← c.to_be_bytes.ensures)
    (c.finish.ensures pw _ keyed
    (rw (← append_assoc) (c.update-2.ensures _ (c.update.ensures _ (c.begin-hasher.ensures pw keyed)))))
