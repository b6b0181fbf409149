use Rattle.cred_many.proofs.Turns.{nine_turns}
use Rattle.cred_many.proofs.laws.a_line_is_answered_after_nine_hashes.Goals as goal

pub returns : goal.returns
returns c = nine_turns
