use Rattle.std.proofs.Common.{◌++◌, ◌∙◌, ap}
use Rattle.sha2.specs.Sha256.{sha256}
use Rattle.cred_scrypt.specs.Hmac.{hmac, outer_pad}
use Rattle.cred_scrypt.proofs.hmac.Hmac.finish.Goals as goal

pub returns : goal.returns
unfolding hmac
returns c key message keyed held =
    c.finalize-2.ensures _ (c.update.ensures (outer_pad key) (rw c.copy_of-outer.ensures keyed.1))
    ∙ ap (λ digest. sha256 (outer_pad key ++ digest)) (c.finalize.ensures _ held)
