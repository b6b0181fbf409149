use Rattle.cred_file.proofs.Marked.{none_from}
use Rattle.cred_file.proofs.marks.Marks.new.Goals as goal

pub returns : goal.returns
returns c = rw c.new.ensures.empty none_from
