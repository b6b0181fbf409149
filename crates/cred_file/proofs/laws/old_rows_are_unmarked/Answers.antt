use Rattle.cred_file.proofs.CellLaws.{old_read}
use Rattle.cred_file.proofs.laws.old_rows_are_unmarked.Goals as goal

pub returns : goal.returns
returns c = old_read
