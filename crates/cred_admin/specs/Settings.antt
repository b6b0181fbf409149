-- The setting of a new record.
use Rattle.std.specs.Prelude.{ℕ, List, ◌++◌, codes, Result, Ok, Err}
use Rattle.cred_phc.specs.{Reading.read_setting, Values.SettingValue, Values.made_setting, declared.error.PhcError.PhcError}

-- as a field after a text that has no salt: 8 bytes of zero in base64
abbrev pub any_salt : List ℕ
any_salt = codes "$AAAAAAAAAAA"

abbrev pub or_salted : Result SettingValue PhcError → Result SettingValue PhcError → List ℕ
    → Result SettingValue PhcError
or_salted (Ok setting) behind salt = Ok setting
or_salted (Err e) (Ok setting) salt = made_setting setting.scheme salt
or_salted (Err e) (Err other) salt = Err e

-- the setting of the text; if only its salt is missing, it has this one
abbrev pub setting_for : List ℕ → List ℕ → Result SettingValue PhcError
setting_for text salt = or_salted (read_setting text) (read_setting (text ++ any_salt)) salt
