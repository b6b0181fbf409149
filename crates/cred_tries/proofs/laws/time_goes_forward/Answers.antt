use Rattle.cred_tries.proofs.Times.{goes_forward, goes_on, stands}
use Rattle.cred_tries.proofs.laws.time_goes_forward.Goals as goal

pub returns : goal.returns
returns c = record { forward = goes_forward; back = stands; goes_on = goes_on }
