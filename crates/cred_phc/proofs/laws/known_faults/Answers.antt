use Rattle.std.proofs.Common.{refl}
use Rattle.base64.specs.Decode.{groups_error, groups_bytes, scan_steps}
use Rattle.cred_phc.specs.{Base64.unbase64, Faults.record_fault, Faults.setting_fault, Fields.numbers_of, Number.number_of, Pieces.pieces}
use Rattle.cred_phc.proofs.laws.known_faults.Goals as goal

pub returns : goal.returns
unfolding record_fault setting_fault pieces numbers_of number_of unbase64 groups_error groups_bytes scan_steps
returns c = record {
  only_a_dollar = refl;
  no_version_number = refl;
  memory_below_no_salt = refl;
  thirty_digits = refl;
  leading_zero = refl;
  trailing_bits = refl;
  no_version_record = refl;
  no_version_setting = refl;
  longest = refl;
  too_long = refl;
}
