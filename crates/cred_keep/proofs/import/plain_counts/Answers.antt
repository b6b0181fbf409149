use Rattle.std.proofs.Common.{rules, append_assoc}
use Rattle.cred_keep.proofs.import.plain_counts.Goals as goal

pub returns : goal.returns
returns c = search (rules, c.format.ensures.ok, append_assoc)
