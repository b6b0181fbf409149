use Rattle.cred_phc.proofs.RecordLaws.{found_record, found_setting, only_record, only_setting}
use Rattle.cred_phc.proofs.FaultLaws.{fault_is, record_fault_law, setting_fault_law}
use Rattle.cred_phc.proofs.laws.reading_is_the_grammar.Goals as goal

pub returns : goal.returns
returns c = record {
  setting_found = found_setting;
  setting_only = only_setting;
  setting_fault = λ text fault. fault_is _ _ fault (setting_fault_law text);
  record_found = found_record;
  record_only = only_record;
  record_fault = λ text fault. fault_is _ _ fault (record_fault_law text);
}
