use Rattle.std.proofs.Common.{refl}
use Rattle.cred_phc.proofs.RecordLaws.{only_setting, read_back}
use Rattle.cred_phc.proofs.laws.read_as_written.Goals as goal

pub returns : goal.returns
returns c = record { records = read_back; settings = λ v is_setting current. only_setting _ v is_setting (current, refl) }
