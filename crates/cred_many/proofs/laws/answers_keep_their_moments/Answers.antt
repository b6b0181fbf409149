use Rattle.cred_many.proofs.{Adding.stand_behind, Serving.limit_of}
use Rattle.cred_many.proofs.laws.answers_keep_their_moments.Goals as goal

pub returns : goal.returns
returns c = record { keeps = stand_behind; limit = limit_of }
