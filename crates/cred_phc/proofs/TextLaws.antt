-- The fields of a text: no field has a `$`, fields are short, and fields of bytes make a text of
-- bytes.
use Rattle.std.proofs.Common.{◌≡◌, ℕ, suc, ◌+◌, ◌^◌, ◌<◌, ◌≤◌, lit≤, Bool, true, List, [], ◌∷◌, ◌++◌, length, inl, inr, codes, arith, refl, length-append}
use Rattle.std.proofs.lemmas.Fmt.{length-decimal-le}
use Rattle.std.specs.List.{join_with_byte}
use Rattle.base64.specs.GeneralPurpose.{IsBytes}
use Rattle.base64.proofs.EngineFacts.{front_bytes}
use Rattle.cred_phc.specs.{declared.setting.Scheme.Scheme, declared.setting.Scheme.TheVariants.Argon2, declared.setting.Scheme.TheVariants.Scrypt}
use Rattle.cred_phc.specs.declared.setting.Variant.{Variant}
use Rattle.cred_phc.specs.declared.setting.Variant.TheVariants.{D, I, Id}
use Rattle.cred_phc.specs.{Names.variant_name, Names.version_text, Ranges.scheme_fits, Text.label, Text.numbers_text, Text.scheme_fields, Text.bare_fields}
use Rattle.cred_argon.specs.{declared.kind.Version.Version, declared.kind.Version.TheVariants.V10, declared.kind.Version.TheVariants.V13}
use Rattle.cred_phc.proofs.{FieldLaws.lacks-label, PieceLaws.AllLack, PieceLaws.lacks, PieceLaws.lacks-append}
use Rattle.cred_phc.proofs.SchemeLaws.{IsFront, argon_small, scrypt_small}

-- the length of fields, with a `$` after each
unfoldable pub room : List (List ℕ) → ℕ
room [] = 0
room (field ∷ fields) = length field + 1 + room fields

pub length-join : (byte : ℕ) (fields : List (List ℕ)) → length (join_with_byte byte fields) ≤ room fields
unfolding room
length-join byte [] = omega arith
length-join byte (field ∷ []) = omega arith
length-join byte (field ∷ next ∷ more) = rw length-append (omega (arith, length-join byte (next ∷ more)))

pub room-append : (front back : List (List ℕ)) → room (front ++ back) ≡ room front + room back
unfolding room
room-append [] back = omega arith
room-append (field ∷ front) back = omega (arith, room-append front back)

pub AllLack-append : (byte : ℕ) (front back : List (List ℕ)) → AllLack byte front → AllLack byte back → AllLack byte (front ++ back)
AllLack-append byte [] back hf hb = hb
AllLack-append byte (field ∷ front) back hf hb = (hf.0, AllLack-append byte front back hf.1 hb)

label_length : (name : List ℕ) (n : ℕ) → length name ≤ 3 → n < 2 ^ 64 → length (label name n) ≤ 23
label_length name n short fits = rw length-append (omega (arith, length-decimal-le 20 n (omega arith) (omega arith) fits))

numbers_length : (x y z : List ℕ) (a b c : ℕ) → length x ≤ 3 → length y ≤ 3 → length z ≤ 3 → a < 2 ^ 64 → b < 2 ^ 64 → c < 2 ^ 64 → length (numbers_text x a y b z c) ≤ 71
numbers_length x y z a b c sx sy sz fa fb fc =
    rw (length-append (label x a) (44 ∷ (label y b ++ 44 ∷ label z c)), length-append (label y b) (44 ∷ label z c))
    (omega (arith, label_length x a sx fa, label_length y b sy fb, label_length z c sz fc))

lacks-numbers : (x y z : List ℕ) (a b c : ℕ) → lacks 36 x ≡ true → lacks 36 y ≡ true → lacks 36 z ≡ true → a < 2 ^ 64 → b < 2 ^ 64 → c < 2 ^ 64 → lacks 36 (numbers_text x a y b z c) ≡ true
lacks-numbers x y z a b c lx ly lz fa fb fc =
    lacks-append 36 (label x a) (44 ∷ (label y b ++ 44 ∷ label z c)) (lacks-label 36 x a refl lx fa)
    (lacks-append 36 (label y b) (44 ∷ label z c) (lacks-label 36 y b refl ly fb) (lacks-label 36 z c refl lz fc))

variant_fits : (variant : Variant) → (lacks 36 (variant_name variant) ≡ true) × (length (variant_name variant) ≤ 8)
variant_fits D = (refl, lit≤ tt)
variant_fits I = (refl, lit≤ tt)
variant_fits Id = (refl, lit≤ tt)

version_fits : (version : Version) → (lacks 36 (version_text version) ≡ true) × (length (version_text version) ≤ 4)
version_fits V10 = (refl, lit≤ tt)
version_fits V13 = (refl, lit≤ tt)

pub scheme_fields_fit : (scheme : Scheme) → scheme_fits scheme ≡ true → AllLack 36 (scheme_fields scheme) × (room (scheme_fields scheme) ≤ 300)
unfolding room
scheme_fields_fit (Argon2 version variant m t p) fits =
    let small = argon_small m t p fits in
    let variant_short = variant_fits variant in
    let version_short = version_fits version in
    let numbers = numbers_length (codes "m=") (codes "t=") (codes "p=") m t p (lit≤ tt) (lit≤ tt) (lit≤ tt) small.0 small.1 small.2 in
    ((refl, (variant_short.0, (version_short.0, (lacks-numbers (codes "m=") (codes "t=") (codes "p=") m t p refl refl refl small.0 small.1 small.2, tt)))), omega arith)
scheme_fields_fit (Scrypt ln r p) fits =
    let small = scrypt_small ln r p fits in
    let numbers = numbers_length (codes "ln=") (codes "r=") (codes "p=") ln r p (lit≤ tt) (lit≤ tt) (lit≤ tt) small.0 small.1 small.2 in
    ((refl, (refl, (lacks-numbers (codes "ln=") (codes "r=") (codes "p=") ln r p refl refl refl small.0 small.1 small.2, tt))), omega arith)

bare_fields_fit : (scheme : Scheme) → scheme_fits scheme ≡ true → AllLack 36 (bare_fields scheme) × (room (bare_fields scheme) ≤ 300)
unfolding room
bare_fields_fit (Argon2 version variant m t p) fits =
    let all = scheme_fields_fit (Argon2 version variant m t p) fits in
    ((all.0.0, (all.0.1.0, (all.0.1.1.1.0, tt))), omega (arith, all.1))
bare_fields_fit (Scrypt ln r p) fits = scheme_fields_fit (Scrypt ln r p) fits

-- the fields before the salt have no `$`, and are short
pub front_fits : (old : Bool) (scheme : Scheme) (front : List (List ℕ)) → scheme_fits scheme ≡ true → IsFront old scheme front → AllLack 36 front × (room front ≤ 300)
unfolding IsFront
front_fits old scheme front fits (inl h) = rw h.1 (scheme_fields_fit scheme fits)
front_fits old scheme front fits (inr h) = rw h.1 (bare_fields_fit scheme fits)

back_bytes : (a b : List ℕ) → IsBytes (a ++ b) → IsBytes b
back_bytes [] b h = h
back_bytes (x ∷ a) b h = back_bytes a b (λ i. h (suc i))

-- a field of a text of bytes
pub field_bytes : (byte : ℕ) (front : List (List ℕ)) (field : List ℕ) (back : List (List ℕ)) → IsBytes (join_with_byte byte (front ++ field ∷ back)) → IsBytes field
field_bytes byte [] field [] h = h
field_bytes byte [] field (next ∷ back) h = front_bytes field (byte ∷ join_with_byte byte (next ∷ back)) h
field_bytes byte (first ∷ []) field back h = field_bytes byte [] field back (λ i. back_bytes first (byte ∷ join_with_byte byte (field ∷ back)) h (suc i))
field_bytes byte (first ∷ next ∷ front) field back h =
    field_bytes byte (next ∷ front) field back (λ i. back_bytes first (byte ∷ join_with_byte byte (next ∷ front ++ field ∷ back)) h (suc i))
