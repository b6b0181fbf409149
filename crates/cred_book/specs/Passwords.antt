-- Whose password it is.
use Rattle.std.specs.Prelude.{◌≡◌, ℕ, List, length, Option, Some, None}
use Rattle.std.specs.FinMap as map
use Rattle.cred_phc.specs.{Tags.tag, Values.RecordValue, Values.SettingValue}
use Rattle.cred_book.specs.{Accounts.Accounts, declared.request.Request.Request}
use Rattle.cred_book.specs.declared.request.Request.TheVariants.{Enrol, Verify, Change, Upgrade, Remove}

-- the password's tag under the record's setting, of the record's length, is the record's tag
abbrev pub IsPasswordOf : RecordValue → List ℕ → Type 0
IsPasswordOf stored pw = tag stored.setting (length stored.tag) pw ≡ stored.tag

-- the name has a record, and the password is one of its passwords
abbrev pub IsPasswordAt : Accounts → List ℕ → List ℕ → Type 0
IsPasswordAt book name pw =
    (stored : RecordValue) × (map.get book name ≡ Some (Some stored)) × IsPasswordOf stored pw

-- ---- others in their place

-- the request with another password for each
abbrev pub with_passwords : (List ℕ → List ℕ) → Request → Request
with_passwords other (Enrol name pw setting) = Enrol name (other pw) setting
with_passwords other (Verify name pw) = Verify name (other pw)
with_passwords other (Change name pw new setting) = Change name (other pw) (other new) setting
with_passwords other (Upgrade name pw setting) = Upgrade name (other pw) setting
with_passwords other (Remove name pw) = Remove name (other pw)

-- each other password has the tag of the one that it replaces, under this setting
abbrev pub KeepsTags : (List ℕ → List ℕ) → SettingValue → ℕ → Type 0
KeepsTags other setting len = (pw : List ℕ) → tag setting len (other pw) ≡ tag setting len pw

-- the setting of the record that a request may make
abbrev pub made_setting : Request → Option SettingValue
made_setting (Enrol name pw setting) = Some setting
made_setting (Change name pw new setting) = Some setting
made_setting (Upgrade name pw setting) = Some setting
made_setting (Verify name pw) = None
made_setting (Remove name pw) = None
