-- The value of one field of a text.
use Rattle.std.specs.Prelude.{ℕ, List, [], ◌∷◌, length, drop, take, Option, Some, None, if◌then◌else◌}
use Rattle.std.specs.Str.{bytes_eq}
use Rattle.cred_phc.specs.declared.setting.Variant.TheVariants.{D, I, Id}
use Rattle.cred_phc.specs.declared.setting.SchemeName.{SchemeName}
use Rattle.cred_phc.specs.declared.setting.SchemeName.TheVariants.{Argon2, Scrypt}
use Rattle.cred_phc.specs.{Names.variant_name, Names.scrypt_name, Pieces.pieces, Number.number_of}

abbrev pub name_of : List ℕ → Option SchemeName
name_of field =
    if bytes_eq field (variant_name D) then Some (Argon2 D)
    else if bytes_eq field (variant_name I) then Some (Argon2 I)
    else if bytes_eq field (variant_name Id) then Some (Argon2 Id)
    else if bytes_eq field scrypt_name then Some Scrypt
    else None

-- the number after a label
abbrev pub labelled_number : List ℕ → List ℕ → Option ℕ
labelled_number label piece =
    if bytes_eq (take (length label) piece) label then number_of (drop (length label) piece)
    else None

abbrev pub triple : Option ℕ → Option ℕ → Option ℕ → Option (ℕ × ℕ × ℕ)
triple (Some a) (Some b) (Some c) = Some (a, b, c)
triple None _ _ = None
triple (Some a) None _ = None
triple (Some a) (Some b) None = None

abbrev pub labelled_numbers : List ℕ → List ℕ → List ℕ → List (List ℕ) → Option (ℕ × ℕ × ℕ)
labelled_numbers x y z (a ∷ b ∷ c ∷ []) =
    triple (labelled_number x a) (labelled_number y b) (labelled_number z c)
labelled_numbers x y z _ = None

-- three numbers, each after its label, with commas (byte 44) between
unfoldable pub numbers_of : List ℕ → List ℕ → List ℕ → List ℕ → Option (ℕ × ℕ × ℕ)
numbers_of x y z field = labelled_numbers x y z (pieces 44 field)
