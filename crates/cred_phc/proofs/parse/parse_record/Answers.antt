use Rattle.std.proofs.Common.{◌∙◌, arith}
use Rattle.cred_phc.specs.{Text.IsRecordText, Values.IsRecord}
use Rattle.cred_phc.proofs.RecordLaws.{both_of, found_record, only_record}
use Rattle.cred_phc.proofs.FaultLaws.{record_fault_law, refused_with, no_fault}
use Rattle.cred_phc.proofs.parse.parse_record.Goals as goal

pub returns : goal.returns
returns c = record {
  found = both_of IsRecord (λ v. IsRecordText c.args.text.now v) _ _ c.whole_record.ensures.exact c.whole_record.ensures.ranges
      (λ v read. found_record c.args.text.now v (λ i. omega (arith, c.type_inv.text i)) read);
  only = λ v h is. c.whole_record.ensures.exact ∙ only_record _ v h is;
  fault = refused_with _ _ _ c.whole_record.ensures.exact (record_fault_law c.args.text.now);
  none = no_fault _ _ _ c.whole_record.ensures.exact (record_fault_law c.args.text.now);
  exact = c.whole_record.ensures.exact;
}
