-- Reading as a function: the value that a text stands for, or its fault. Contracts say that the
-- readers compute this function, and that it agrees with the texts of values and with the table of
-- faults.
use Rattle.std.specs.Prelude.{◌≡◌, ℕ, List, [], ◌∷◌, length, take, Option, Some, None, Result, Ok, Err, Bool, true, false, nat_lt, ◌==◌, not, if◌then◌else◌}
use Rattle.std.specs.{Option.ok_or, Str.bytes_eq}
use Rattle.cred_phc.specs.declared.error.PhcError.{PhcError}
use Rattle.cred_phc.specs.declared.error.PhcError.TheVariants.{Shape, Version as WrongVersion, Params, Range, Salt, Tag, TooLong, Scheme as NoScheme}
use Rattle.cred_phc.specs.{declared.setting.Scheme.Scheme, declared.setting.Scheme.TheVariants.Argon2, declared.setting.Scheme.TheVariants.Scrypt}
use Rattle.cred_phc.specs.{declared.setting.Variant.Variant, declared.parse.Form.Form}
use Rattle.cred_phc.specs.{declared.parse.Form.TheVariants.Setting, declared.parse.Form.TheVariants.Record, declared.setting.SchemeName.SchemeName}
use Rattle.cred_phc.specs.declared.setting.SchemeName.TheVariants.{Argon2 as NamesArgon2, Scrypt as NamesScrypt}
use Rattle.cred_phc.specs.Ranges.{argon_fits, scrypt_fits, salt_low, MAX_SALT, MIN_TAG, MAX_TAG, MAX_TEXT}
use Rattle.cred_phc.specs.Values.{SettingValue, setting_of, RecordValue, record_of}
use Rattle.cred_phc.specs.Names.{version_text, version_label, memory_label, passes_label, cost_label, block_size_label, parallelism_label}
use Rattle.cred_phc.specs.{Pieces.pieces, Base64.bytes_of, Fields.name_of, Fields.numbers_of}
use Rattle.cred_argon.specs.{declared.kind.Version.Version, declared.kind.Version.TheVariants.V10, declared.kind.Version.TheVariants.V13}

-- whether the version of a text may be 0x10, or be left out: records alone may be old
abbrev pub may_be_old : Form → Bool
may_be_old Setting = false
may_be_old Record = true

-- goes on with the value; the first fault ends it
infixl 10 ◌>>=◌
abbrev pub ◌>>=◌ : {A B E : Type 0} → Result A E → (A → Result B E) → Result B E
(Ok x) >>= f = f x
(Err e) >>= f = Err e

-- goes on if the test holds
abbrev pub guard : Bool → PhcError → Result (Unit {0}) PhcError
guard b e = if b then Ok tt else Err e

-- the next field, and those after it
abbrev pub next : List (List ℕ) → Result (List ℕ × List (List ℕ)) PhcError
next [] = Err Shape
next (field ∷ fields) = Ok (field, fields)

-- nothing comes after the last field
abbrev pub end : List (List ℕ) → Result (Unit {0}) PhcError
end [] = Ok tt
end (field ∷ fields) = Err Shape

-- the scheme of these numbers, if they are in their ranges
abbrev pub argon_of : Version → Variant → ℕ × ℕ × ℕ → Option Scheme
argon_of version variant n =
    if argon_fits n.0 n.1 n.2 then Some (Argon2 version variant n.0 n.1 n.2) else None

abbrev pub scrypt_of : ℕ × ℕ × ℕ → Option Scheme
scrypt_of n = if scrypt_fits n.0 n.1 n.2 then Some (Scrypt n.0 n.1 n.2) else None

-- the version, and the fields after it; a record may be old, and then its version may be left out
abbrev pub version_of : Bool → List (List ℕ) → List ℕ × List (List ℕ)
    → Result (Version × List (List ℕ)) PhcError
version_of old fields field =
    if bytes_eq field.0 (version_text V13) then Ok (V13, field.1)
    else if not old then Err WrongVersion
    else if bytes_eq field.0 (version_text V10) then Ok (V10, field.1)
    else if bytes_eq (take 2 field.0) version_label then Err WrongVersion
    else Ok (V10, fields)

unfoldable pub version_at : Bool → List (List ℕ) → Result (Version × List (List ℕ)) PhcError
version_at old fields = next fields >>= version_of old fields

-- the numbers after these labels, as a scheme
unfoldable pub numbers_at : List ℕ → List ℕ → List ℕ → (ℕ × ℕ × ℕ → Option Scheme)
    → List (List ℕ) → Result (Scheme × List (List ℕ)) PhcError
numbers_at x y z scheme_of fields =
    next fields >>= λ field.
    ok_or (numbers_of x y z field.0) Params >>= λ numbers.
    ok_or (scheme_of numbers) Range >>= λ scheme.
    Ok (scheme, field.1)

unfoldable pub argon_at : Bool → Variant → List (List ℕ) → Result (Scheme × List (List ℕ)) PhcError
argon_at old variant fields =
    version_at old fields >>= λ version.
    numbers_at memory_label passes_label parallelism_label (argon_of version.0 variant) version.1

unfoldable pub scrypt_at : List (List ℕ) → Result (Scheme × List (List ℕ)) PhcError
scrypt_at fields = numbers_at cost_label block_size_label parallelism_label scrypt_of fields

abbrev pub named_at : Bool → SchemeName → List (List ℕ) → Result (Scheme × List (List ℕ)) PhcError
named_at old (NamesArgon2 variant) fields = argon_at old variant fields
named_at old NamesScrypt fields = scrypt_at fields

-- the scheme of the fields from the first on, and those after it
unfoldable pub scheme_at : Bool → List (List ℕ) → Result (Scheme × List (List ℕ)) PhcError
scheme_at old fields =
    next fields >>= λ front.
    guard (length front.0 == 0) Shape >>= λ _.
    next front.1 >>= λ field.
    ok_or (name_of field.0) NoScheme >>= λ name.
    named_at old name field.1

unfoldable pub setting_at : Bool → List (List ℕ) → Result (SettingValue × List (List ℕ)) PhcError
setting_at old fields =
    scheme_at old fields >>= λ scheme.
    next scheme.1 >>= λ field.
    ok_or (bytes_of (salt_low scheme.0) MAX_SALT field.0) Salt >>= λ salt.
    Ok (setting_of scheme.0 salt, field.1)

unfoldable pub tag_at : List (List ℕ) → Result (List ℕ × List (List ℕ)) PhcError
tag_at fields =
    next fields >>= λ field.
    ok_or (bytes_of MIN_TAG MAX_TAG field.0) Tag >>= λ tag.
    Ok (tag, field.1)

unfoldable pub fields_of : List ℕ → Result (List (List ℕ)) PhcError
fields_of text = if nat_lt MAX_TEXT (length text) then Err TooLong else Ok (pieces 36 text)

-- the setting that a text stands for, or its first fault
unfoldable pub read_setting : List ℕ → Result SettingValue PhcError
read_setting text =
    fields_of text >>= λ fields.
    setting_at false fields >>= λ setting.
    end setting.1 >>= λ _.
    Ok setting.0

-- the record that a text stands for, or its first fault
unfoldable pub read_record : List ℕ → Result RecordValue PhcError
read_record text =
    fields_of text >>= λ fields.
    setting_at true fields >>= λ setting.
    tag_at setting.1 >>= λ tag.
    end tag.1 >>= λ _.
    Ok (record_of setting.0 tag.0)

-- The result of a function, seen by view, is the result of reading.
abbrev pub Gives : {X Y : Type 0} → (X → Y) → Result X PhcError → Result Y PhcError → Type 0
Gives view (Ok x) read = read ≡ Ok (view x)
Gives view (Err e) read = read ≡ Err e
