-- The texts of settings and records, in the PHC string format: `$`, the name, and further fields
-- with `$` (byte 36) between.
use Rattle.std.specs.Prelude.{◌≡◌, ℕ, List, [], ◌∷◌, ◌++◌, ◌⊎◌, decimal, true, false}
use Rattle.std.specs.List.{join_with_byte}
use Rattle.cred_phc.specs.{declared.setting.Scheme.Scheme, declared.setting.Scheme.TheVariants.Argon2, declared.setting.Scheme.TheVariants.Scrypt}
use Rattle.cred_phc.specs.Names.{variant_name, version_text, scrypt_name, memory_label, passes_label, cost_label, block_size_label, parallelism_label}
use Rattle.cred_phc.specs.{Ranges.is_current, Values.SettingValue, Values.RecordValue, Base64.base64}

abbrev pub label : List ℕ → ℕ → List ℕ
label name n = name ++ decimal n

-- three numbers in decimal, each after its label, with commas (byte 44) between
abbrev pub numbers_text : List ℕ → ℕ → List ℕ → ℕ → List ℕ → ℕ → List ℕ
numbers_text x a y b z c = join_with_byte 44 (label x a ∷ label y b ∷ label z c ∷ [])

abbrev pub argon_numbers : ℕ → ℕ → ℕ → List ℕ
argon_numbers m t p = numbers_text memory_label m passes_label t parallelism_label p

abbrev pub scrypt_numbers : ℕ → ℕ → ℕ → List ℕ
scrypt_numbers ln r p = numbers_text cost_label ln block_size_label r parallelism_label p

-- the field before the first `$` is empty
abbrev pub scheme_fields : Scheme → List (List ℕ)
scheme_fields (Argon2 version variant m t p) =
    [] ∷ variant_name variant ∷ version_text version ∷ argon_numbers m t p ∷ []
scheme_fields (Scrypt ln r p) = [] ∷ scrypt_name ∷ scrypt_numbers ln r p ∷ []

unfoldable pub scheme_text : Scheme → List ℕ
scheme_text scheme = join_with_byte 36 (scheme_fields scheme)

-- the one text of a setting
unfoldable pub setting_text : SettingValue → List ℕ
setting_text v = join_with_byte 36 (scheme_fields v.scheme ++ base64 v.salt ∷ [])

-- the text of a record
unfoldable pub record_text : RecordValue → List ℕ
record_text v =
    join_with_byte 36 (scheme_fields v.setting.scheme ++ base64 v.setting.salt ∷ base64 v.tag ∷ [])

-- the fields with the version left out, as they were before Argon2 had a version 0x13
abbrev pub bare_fields : Scheme → List (List ℕ)
bare_fields (Argon2 version variant m t p) = [] ∷ variant_name variant ∷ argon_numbers m t p ∷ []
bare_fields (Scrypt ln r p) = scheme_fields (Scrypt ln r p)

-- the other text of a record of version 0x10
unfoldable pub bare_text : RecordValue → List ℕ
bare_text v =
    join_with_byte 36 (bare_fields v.setting.scheme ++ base64 v.setting.salt ∷ base64 v.tag ∷ [])

-- The text stands for this setting: never for one of version 0x10, as new records are of version
-- 0x13.
abbrev pub IsSettingText : List ℕ → SettingValue → Type 0
IsSettingText text v = (is_current v.scheme ≡ true) × (text ≡ setting_text v)

-- The text stands for this record.
abbrev pub IsRecordText : List ℕ → RecordValue → Type 0
IsRecordText text v =
    (text ≡ record_text v) ⊎ ((is_current v.setting.scheme ≡ false) × (text ≡ bare_text v))
