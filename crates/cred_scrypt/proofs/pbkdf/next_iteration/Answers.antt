use Rattle.std.proofs.Common.{ap, ◌∙◌, add-one}
use Rattle.cred_scrypt.specs.{Hmac.hmac, Pbkdf2.iteration}
use Rattle.cred_scrypt.proofs.pbkdf.next_iteration.Goals as goal

pub returns : goal.returns
unfolding iteration
returns c pw salt i n keyed was =
    rw add-one (c.finish.ensures pw _ keyed (c.update.ensures _ (c.begin-hasher.ensures pw keyed)) ∙ ap (hmac pw) was)
