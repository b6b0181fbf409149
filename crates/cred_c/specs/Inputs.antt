-- The meanings of numbers.
use Rattle.std.specs.Prelude.{◌≡◌, ℕ, ◌≤◌, ◌⊎◌, List, Result, Ok, Err}
use Rattle.cred_argon.specs.{Numbers.kind_number, Numbers.version_number, Parameters.Parameters, Parameters.parameters, declared.kind.Kind.Kind}
use Rattle.cred_argon.specs.declared.kind.Version.{Version}
use Rattle.cred_c.specs.{declared.raw.ScryptNumbers.ScryptNumbers, declared.tag_numbers.Argon2Numbers.Argon2Numbers}
use Rattle.cred_phc.specs.{declared.error.PhcError.PhcError, declared.setting.Scheme.Scheme, declared.setting.Scheme.TheVariants.Argon2}
use Rattle.cred_phc.specs.{declared.setting.Variant.Variant, Values.RecordValue, Values.SettingValue, Values.made_setting, Values.made_record}

-- a kind of Argon2
abbrev pub IsKind : ℕ → Type 0
IsKind kind = kind ≤ 2

-- a version of Argon2
abbrev pub IsVersion : ℕ → Type 0
IsVersion version = (version ≡ 16) ⊎ (version ≡ 19)

-- at least one, and no more than a byte holds
abbrev pub IsPositiveByte : ℕ → Type 0
IsPositiveByte n = (1 ≤ n) × (n ≤ 255)

-- scrypt's r and p are such numbers
abbrev pub HasBytes : ScryptNumbers → Type 0
HasBytes n = IsPositiveByte n.r × IsPositiveByte n.p

-- the numbers name this kind and this version
abbrev pub AreOf : Argon2Numbers → Kind → Version → Type 0
AreOf n kind version = (n.kind ≡ kind_number kind) × (n.version ≡ version_number version)

-- the numbers as parameters of a tag, whether they are in their ranges or not
abbrev pub tag_parameters : Argon2Numbers → Kind → Version → ℕ → Parameters
tag_parameters n kind version tag_len = parameters version kind n.memory n.passes n.lanes tag_len

-- the numbers as a record's scheme
abbrev pub record_scheme : Argon2Numbers → Variant → Version → Scheme
record_scheme n variant version = Argon2 version variant n.memory n.passes n.lanes

abbrev pub record_in : Result SettingValue PhcError → List ℕ → Result RecordValue PhcError
record_in (Err e) tag = Err e
record_in (Ok setting) tag = made_record setting tag

-- the record of these parts, or why there is none
abbrev pub record_of_parts : Scheme → List ℕ → List ℕ → Result RecordValue PhcError
record_of_parts scheme salt tag = record_in (made_setting scheme salt) tag
