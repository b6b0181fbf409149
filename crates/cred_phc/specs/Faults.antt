-- The fault of a text: its fields are judged from left to right, and the first fault is the answer.
use Rattle.std.specs.Prelude.{ℕ, List, [], ◌∷◌, ◌++◌, length, take, not, Option, Some, None, is_some, Bool, true, false, nat_lt, ◌==◌, if◌then◌else◌}
use Rattle.std.specs.Str.{bytes_eq}
use Rattle.cred_phc.specs.declared.error.PhcError.{PhcError}
use Rattle.cred_phc.specs.declared.error.PhcError.TheVariants.{Shape, Version as WrongVersion, Params, Range, Salt, Tag, TooLong, Scheme as NoScheme}
use Rattle.cred_phc.specs.declared.setting.SchemeName.{SchemeName}
use Rattle.cred_phc.specs.declared.setting.SchemeName.TheVariants.{Argon2, Scrypt}
use Rattle.cred_phc.specs.Ranges.{argon_fits, scrypt_fits, MIN_ARGON2_SALT, MIN_SCRYPT_SALT, MAX_SALT, MIN_TAG, MAX_TAG, MAX_TEXT}
use Rattle.cred_phc.specs.Names.{version_text, version_label, memory_label, passes_label, cost_label, block_size_label, parallelism_label}
use Rattle.cred_phc.specs.{Pieces.pieces, Base64.bytes_of, Fields.name_of, Fields.numbers_of}
use Rattle.cred_argon.specs.declared.kind.Version.TheVariants.{V10, V13}

-- what is wrong with a field, if anything is
abbrev pub Judge : Type 0
Judge = List ℕ → Option PhcError

abbrev pub unless : Bool → PhcError → Option PhcError
unless fine e = if fine then None else Some e

-- the form of the numbers comes before their ranges
abbrev pub numbers_fault : (ℕ → ℕ → ℕ → Bool) → Option (ℕ × ℕ × ℕ) → Option PhcError
numbers_fault fits None = Some Params
numbers_fault fits (Some n) = unless (fits n.0 n.1 n.2) Range

abbrev pub bytes_fault : ℕ → ℕ → PhcError → Judge
bytes_fault low high e field = unless (is_some (bytes_of low high field)) e

-- the numbers and the salt
abbrev pub judges_of : SchemeName → List Judge
judges_of (Argon2 variant) =
    (λ field. numbers_fault argon_fits
    (numbers_of memory_label passes_label parallelism_label field))
    ∷ bytes_fault MIN_ARGON2_SALT MAX_SALT Salt ∷ []
judges_of Scrypt =
    (λ field. numbers_fault scrypt_fits
    (numbers_of cost_label block_size_label parallelism_label field))
    ∷ bytes_fault MIN_SCRYPT_SALT MAX_SALT Salt ∷ []

-- the fault that comes first
abbrev pub first : Option PhcError → Option PhcError → Option PhcError
first (Some e) later = Some e
first None later = later

-- each field by its judge; one that is missing, or one too many, is a fault of the shape
abbrev pub judgement : List Judge → List (List ℕ) → Option PhcError
judgement [] [] = None
judgement [] (field ∷ fields) = Some Shape
judgement (judge ∷ judges) [] = Some Shape
judgement (judge ∷ judges) (field ∷ fields) = first (judge field) (judgement judges fields)

-- the version; a record may be old, and then its version may be left out
abbrev pub version_fault : Bool → List Judge → List (List ℕ) → Option PhcError
version_fault old judges [] = Some Shape
version_fault old judges (field ∷ fields) =
    if bytes_eq field (version_text V13) then judgement judges fields
    else if not old then Some WrongVersion
    else if bytes_eq field (version_text V10) then judgement judges fields
    else if bytes_eq (take 2 field) version_label then Some WrongVersion
    else judgement judges (field ∷ fields)

-- the fields that the name asks for, and those at the end
abbrev pub named_fault : Bool → List Judge → Option SchemeName → List (List ℕ) → Option PhcError
named_fault old last None fields = Some NoScheme
named_fault old last (Some (Argon2 variant)) fields =
    version_fault old (judges_of (Argon2 variant) ++ last) fields
named_fault old last (Some Scrypt) fields = judgement (judges_of Scrypt ++ last) fields

-- no byte comes before the first `$`, and the name comes after it
abbrev pub fields_fault : Bool → List Judge → List (List ℕ) → Option PhcError
fields_fault old last [] = Some Shape
fields_fault old last (front ∷ []) = Some Shape
fields_fault old last (front ∷ name ∷ fields) =
    first (unless (length front == 0) Shape) (named_fault old last (name_of name) fields)

-- a text that is too long is refused unread; any other is cut at each `$` (byte 36)
abbrev pub text_fault : Bool → List Judge → List ℕ → Option PhcError
text_fault old last text =
    if nat_lt MAX_TEXT (length text) then Some TooLong else fields_fault old last (pieces 36 text)

-- the first fault of a setting's text, if it has any
unfoldable pub setting_fault : List ℕ → Option PhcError
setting_fault text = text_fault false [] text

-- the first fault of a record's text, if it has any
unfoldable pub record_fault : List ℕ → Option PhcError
record_fault text = text_fault true (bytes_fault MIN_TAG MAX_TAG Tag ∷ []) text
