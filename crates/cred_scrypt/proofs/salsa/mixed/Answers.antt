use Rattle.cred_scrypt.specs.Salsa.{salsa20_8}
use Rattle.cred_scrypt.proofs.salsa.mixed.Goals as goal

pub returns : goal.returns
unfolding salsa20_8
returns c = rw (← c.eight_rounds.ensures) c.added.ensures
