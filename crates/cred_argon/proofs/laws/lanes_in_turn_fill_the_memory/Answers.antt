use Rattle.cred_argon.proofs.Runs.{run_fills}
use Rattle.cred_argon.proofs.laws.lanes_in_turn_fill_the_memory.Goals as goal

pub returns : goal.returns
returns c = run_fills
