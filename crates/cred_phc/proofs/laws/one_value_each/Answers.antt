use Rattle.cred_phc.proofs.RecordLaws.{one_setting, one_record}
use Rattle.cred_phc.proofs.laws.one_value_each.Goals as goal

pub returns : goal.returns
returns c = record { settings = one_setting; records = one_record }
