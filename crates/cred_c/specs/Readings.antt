-- The values that the caller keeps of a text of Argon2 between the calls for its lanes.
use Rattle.std.specs.Prelude.{◌≡◌, ℕ, ◌≤◌, Option, Some, None, length, take}
use Rattle.cred_argon.specs.Numbers.{version_number}
use Rattle.cred_c.specs.{Parts.variant_number, declared.reading.RecordReading.RecordReading, declared.reading.SettingReading.SettingReading}
use Rattle.cred_c.specs.declared.tag_numbers.TagNumbers.{TagNumbers}
use Rattle.cred_phc.specs.{Values.RecordValue, Values.SettingValue, declared.setting.Scheme.Scheme}
use Rattle.cred_phc.specs.declared.setting.Scheme.TheVariants.{Argon2, Scrypt}

-- the numbers of a tag of len bytes by a scheme, if it is one of Argon2
abbrev pub tag_numbers : Scheme → ℕ → Option TagNumbers
tag_numbers (Argon2 version variant m t p) len = Some (record {
  kind = variant_number variant;
  version = version_number version;
  memory = m;
  passes = t;
  lanes = p;
  tag_len = len;
})
tag_numbers (Scrypt ln r p) len = None

-- what was read is this setting
pub record IsReadSetting (r : SettingReading) (s : SettingValue) : Type 0 where
  pub numbers : tag_numbers s.scheme r.numbers.tag_len ≡ Some r.numbers
  pub shortest : 4 ≤ r.numbers.tag_len
  pub longest : r.numbers.tag_len ≤ 64
  pub salt_len : r.salt_len ≡ length s.salt
  pub salt : take r.salt_len r.salt ≡ s.salt

-- what was read is this record
pub record IsReadRecord (r : RecordReading) (v : RecordValue) : Type 0 where
  pub setting : IsReadSetting r.setting v.setting
  pub tag_len : r.setting.numbers.tag_len ≡ length v.tag
  pub tag : take r.setting.numbers.tag_len r.tag ≡ v.tag
