-- The parts of a record.
use Rattle.std.specs.Prelude.{ℕ, length}
use Rattle.cred_argon.specs.Numbers.{kind_number, version_number}
use Rattle.cred_c.specs.declared.parts.Parts.{Parts}
use Rattle.cred_phc.specs.{Tags.argon_kind, Values.RecordValue, declared.setting.Scheme.Scheme}
use Rattle.cred_phc.specs.{declared.setting.Scheme.TheVariants.Argon2, declared.setting.Scheme.TheVariants.Scrypt, declared.setting.Variant.Variant}

abbrev pub variant_number : Variant → ℕ
variant_number variant = kind_number (argon_kind variant)

abbrev pub scheme_parts : Scheme → ℕ → ℕ → Parts
scheme_parts (Argon2 version variant m t p) salt tag = record {
  scheme = variant_number variant;
  version = version_number version;
  memory = m;
  passes = t;
  lanes = p;
  salt_len = salt;
  tag_len = tag;
}
scheme_parts (Scrypt ln r p) salt tag = record {
  scheme = 3;
  version = 0;
  memory = ln;
  passes = r;
  lanes = p;
  salt_len = salt;
  tag_len = tag;
}

abbrev pub parts_of : RecordValue → Parts
parts_of v = scheme_parts v.setting.scheme (length v.setting.salt) (length v.tag)
