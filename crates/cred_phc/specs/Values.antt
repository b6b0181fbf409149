-- Settings, tags, records and passwords as contracts see them, and their ranges.
use Rattle.std.specs.Prelude.{ℕ, List, length, Bool, if◌then◌else◌, not, Result, Ok, Err, Option, Some, None, IsTrue}
use Rattle.base64.specs.GeneralPurpose.{IsBytes}
use Rattle.cred_phc.specs.{declared.setting.Scheme.Scheme, declared.error.PhcError.PhcError}
use Rattle.cred_phc.specs.declared.error.PhcError.TheVariants.{Range, Salt, Tag}
use Rattle.cred_phc.specs.Ranges.{between, scheme_fits, salt_low, MAX_SALT, MIN_TAG, MAX_TAG, MAX_PASSWORD}

-- a scheme with its numbers, and a salt
pub record SettingValue : Type 0 where
  pub scheme : Scheme
  pub salt : List ℕ

abbrev pub setting_of : Scheme → List ℕ → SettingValue
setting_of scheme salt = record { scheme = scheme; salt = salt }

-- a setting, and the tag of some password under it
pub record RecordValue : Type 0 where
  pub setting : SettingValue
  pub tag : List ℕ

abbrev pub record_of : SettingValue → List ℕ → RecordValue
record_of setting tag = record { setting = setting; tag = tag }

abbrev pub salt_fits : Scheme → List ℕ → Bool
salt_fits scheme salt = between (salt_low scheme) MAX_SALT (length salt)

abbrev pub tag_fits : List ℕ → Bool
tag_fits tag = between MIN_TAG MAX_TAG (length tag)

abbrev pub password_fits : List ℕ → Bool
password_fits password = between 0 MAX_PASSWORD (length password)

-- inside the ranges; a list of numbers need not be one of bytes, so a field says this too
pub record IsSetting (v : SettingValue) : Type 0 where
  pub scheme : IsTrue (scheme_fits v.scheme)
  pub salt : IsTrue (salt_fits v.scheme v.salt)
  pub bytes : IsBytes v.salt

pub record IsTag (tag : List ℕ) : Type 0 where
  pub fits : IsTrue (tag_fits tag)
  pub bytes : IsBytes tag

pub record IsRecord (v : RecordValue) : Type 0 where
  pub setting : IsSetting v.setting
  pub tag : IsTag v.tag

pub record IsPassword (password : List ℕ) : Type 0 where
  pub fits : IsTrue (password_fits password)
  pub bytes : IsBytes password

-- the answer of a call that makes a setting
abbrev pub made_setting : Scheme → List ℕ → Result SettingValue PhcError
made_setting scheme salt =
    if not (scheme_fits scheme) then Err Range
    else if not (salt_fits scheme salt) then Err Salt
    else Ok (setting_of scheme salt)

-- the answer of a call that makes a record
abbrev pub made_record : SettingValue → List ℕ → Result RecordValue PhcError
made_record setting tag = if not (tag_fits tag) then Err Tag else Ok (record_of setting tag)

-- the answer of a call that makes a password
abbrev pub made_password : List ℕ → Option (List ℕ)
made_password password = if password_fits password then Some password else None
