use Rattle.cred_tries.proofs.Kept.{none_from}
use Rattle.cred_tries.proofs.counts.Counts.new.Goals as goal

pub returns : goal.returns
returns c = rw c.new.ensures.empty none_from
