use Rattle.std.proofs.Common.{◌∙◌, arith}
use Rattle.cred_phc.specs.{Text.IsSettingText, Values.IsSetting}
use Rattle.cred_phc.proofs.RecordLaws.{both_of, found_setting, only_setting}
use Rattle.cred_phc.proofs.FaultLaws.{setting_fault_law, refused_with, no_fault}
use Rattle.cred_phc.proofs.parse.parse_setting.Goals as goal

pub returns : goal.returns
returns c = record {
  found = both_of IsSetting (λ v. IsSettingText c.args.text.now v) _ _ c.whole_setting.ensures.exact c.whole_setting.ensures.ranges
      (λ v read. found_setting c.args.text.now v (λ i. omega (arith, c.type_inv.text i)) read);
  only = λ v h is. c.whole_setting.ensures.exact ∙ only_setting _ v h is;
  fault = refused_with _ _ _ c.whole_setting.ensures.exact (setting_fault_law c.args.text.now);
  none = no_fault _ _ _ c.whole_setting.ensures.exact (setting_fault_law c.args.text.now);
  exact = c.whole_setting.ensures.exact;
}
