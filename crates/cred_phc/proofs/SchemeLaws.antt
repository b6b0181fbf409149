-- The fields of a scheme, read and written.
use Rattle.std.proofs.Common.{◌≡◌, ◌∙◌, ℕ, ◌^◌, ◌<◌, ◌==◌, Bool, true, false, ◌&&◌, ◌||◌, not, List, [], ◌∷◌, ◌++◌, length, take, Option, Some, Ok, Err, ◌⊎◌, inl, inr, codes, arith, refl, sym, ap, ap₂}
use borrow.Author.Tests.{eqb-true, not-false}
use Rattle.std.specs.{Cmp.second_so, Str.bytes_eq, Option.ok_or}
use Rattle.cred_argon.specs.{declared.kind.Version.Version, declared.kind.Version.TheVariants.V10, declared.kind.Version.TheVariants.V13}
use Rattle.cred_phc.specs.declared.error.PhcError.TheVariants.{Shape, Version as WrongVersion, Params, Range, Scheme as NoScheme}
use Rattle.cred_phc.specs.{declared.setting.Scheme.Scheme, declared.setting.Scheme.TheVariants.Argon2, declared.setting.Scheme.TheVariants.Scrypt}
use Rattle.cred_phc.specs.declared.setting.Variant.{Variant}
use Rattle.cred_phc.specs.declared.setting.Variant.TheVariants.{D, I, Id}
use Rattle.cred_phc.specs.declared.setting.SchemeName.{SchemeName}
use Rattle.cred_phc.specs.declared.setting.SchemeName.TheVariants.{Argon2 as NamesArgon2, Scrypt as NamesScrypt}
use Rattle.cred_phc.specs.{Fields.name_of, Fields.numbers_of, Names.variant_name}
use Rattle.cred_phc.specs.Ranges.{argon_fits, scrypt_fits, scheme_fits, is_current}
use Rattle.cred_phc.specs.Reading.{guard, next, argon_of, scrypt_of, version_of, version_at, numbers_at, argon_at, scrypt_at, named_at, scheme_at}
use Rattle.cred_phc.specs.Text.{argon_numbers, scrypt_numbers, scheme_fields, bare_fields}
use Rattle.std.proofs.{lemmas.Bool.and_from, lemmas.Bool.or_left, lemmas.Bool.or_right, lemmas.Bool.Decides.nat_tests, lemmas.Option.cond_some}
use Rattle.cred_phc.proofs.StepLaws.{bind_ok, ok_or_ok, next_ok, guard_ok, ok_pair, some_choice, ok_choice, err_choice}
use Rattle.cred_phc.proofs.FieldLaws.{same_bytes, numbers_of-text, numbers_is}

abbrev name_text : SchemeName → List ℕ
name_text (NamesArgon2 variant) = variant_name variant
name_text NamesScrypt = codes "scrypt"

name_is : (field : List ℕ) (name : SchemeName) → name_of field ≡ Some name → field ≡ name_text name
name_is field name e = elim (some_choice (bytes_eq field (codes "argon2d")) (NamesArgon2 D) name _ e) [
  | inl h ↦ same_bytes _ _ h.0 ∙ ap name_text h.1
  | inr e ↦ elim (some_choice (bytes_eq field (codes "argon2i")) (NamesArgon2 I) name _ e) [
    | inl h ↦ same_bytes _ _ h.0 ∙ ap name_text h.1
    | inr e ↦ elim (some_choice (bytes_eq field (codes "argon2id")) (NamesArgon2 Id) name _ e) [
      | inl h ↦ same_bytes _ _ h.0 ∙ ap name_text h.1
      | inr e ↦ let h = cond_some (bytes_eq field (codes "scrypt")) NamesScrypt name e in same_bytes _ _ h.0 ∙ ap name_text h.1
    ]
  ]
]

-- the first fields of a record, and of a setting if `old` isn't allowed
unfoldable pub IsFront : Bool → Scheme → List (List ℕ) → Type 0
IsFront old scheme front = (((old || is_current scheme) ≡ true) × (front ≡ scheme_fields scheme))
    ⊎ (((old && not (is_current scheme)) ≡ true) × (front ≡ bare_fields scheme))

-- the version in the fields: 0x13, or 0x10 written, or 0x10 left out
VersionIs : Bool → List (List ℕ) → Version → List (List ℕ) → Type 0
VersionIs old fields version rest = ((version ≡ V13) × (fields ≡ codes "v=19" ∷ rest))
    ⊎ (((old ≡ true) × (version ≡ V10) × (fields ≡ codes "v=16" ∷ rest)) ⊎ ((old ≡ true) × (version ≡ V10) × (fields ≡ rest)))

-- a field that is this text, and the fields after it
field_is : {A : Type 0} (fields : List (List ℕ)) (field : List ℕ × List (List ℕ)) (text : List ℕ) (x y : A) (rest : List (List ℕ)) → fields ≡ field.0 ∷ field.1
    → bytes_eq field.0 text ≡ true → ◌≡◌ {A = A × List (List ℕ)} (x, field.1) (y, rest) → (y ≡ x) × (fields ≡ text ∷ rest)
field_is fields field text x y rest whole same behind =
    (ap (λ p. p.0) (sym behind), whole ∙ ap (λ f. f ∷ field.1) (same_bytes field.0 text same) ∙ ap (λ p. text ∷ p.1) behind)

version_from : (old : Bool) (fields rest : List (List ℕ)) (field : List ℕ × List (List ℕ)) (version : Version) → fields ≡ field.0 ∷ field.1
    → version_of old fields field ≡ Ok (version, rest) → VersionIs old fields version rest
unfolding VersionIs
version_from old fields rest field version whole e =
    elim (ok_choice (bytes_eq field.0 (codes "v=19")) (V13, field.1) (version, rest) _ e) [
      | inl h ↦ inl (field_is fields field (codes "v=19") V13 version rest whole h.0 h.1)
      | inr e ↦
          let allowed = err_choice (not old) WrongVersion (version, rest) _ e in
          elim (ok_choice (bytes_eq field.0 (codes "v=16")) (V10, field.1) (version, rest) _ allowed.1) [
            | inl h ↦ let is = field_is fields field (codes "v=16") V10 version rest whole h.0 h.1 in inr (inl (not-false old allowed.0, is.0, is.1))
            | inr e ↦
                let bare = err_choice (bytes_eq (take 2 field.0) (codes "v=")) WrongVersion (version, rest) _ e in
                let is = ok_pair V10 version fields rest bare.1 in
                inr (inr (not-false old allowed.0, sym is.0, is.1))
          ]
    ]

version_is : (old : Bool) (fields rest : List (List ℕ)) (version : Version) → version_at old fields ≡ Ok (version, rest) → VersionIs old fields version rest
unfolding version_at
version_is old fields rest version e =
    let field = bind_ok (next fields) (version_of old fields) (version, rest) e in
    version_from old fields rest field.0 version (next_ok fields field.0 field.1) field.2

numbers_at_is : (x y z : List ℕ) (scheme_of : ℕ × ℕ × ℕ → Option Scheme) (fields rest : List (List ℕ)) (scheme : Scheme)
    → numbers_at x y z scheme_of fields ≡ Ok (scheme, rest)
    → (field : List ℕ) × (n : ℕ × ℕ × ℕ) × (fields ≡ field ∷ rest) × (numbers_of x y z field ≡ Some n) × (scheme_of n ≡ Some scheme)
unfolding numbers_at
numbers_at_is x y z scheme_of fields rest scheme e =
    let field = bind_ok (next fields) _ (scheme, rest) e in
    let n = bind_ok (ok_or (numbers_of x y z field.0.0) Params) _ (scheme, rest) field.2 in
    let made = bind_ok (ok_or (scheme_of n.0) Range) _ (scheme, rest) n.2 in
    let is = ok_pair made.0 scheme field.0.1 rest made.2 in
    (field.0.0, n.0, next_ok fields field.0 field.1 ∙ ap (λ r. field.0.0 ∷ r) is.1, ok_or_ok _ Params n.0 n.1, ok_or_ok _ Range made.0 made.1 ∙ ap Some is.0)

pub argon_small : (m t p : ℕ) → argon_fits m t p ≡ true → (m < 2 ^ 64) × (t < 2 ^ 64) × (p < 2 ^ 64)
argon_small m t p h = (grind (arith, nat_tests), grind (arith, nat_tests), grind (arith, nat_tests))

pub scrypt_small : (ln r p : ℕ) → scrypt_fits ln r p ≡ true → (ln < 2 ^ 64) × (r < 2 ^ 64) × (p < 2 ^ 64)
scrypt_small ln r p h = (grind (arith, nat_tests), grind (arith, nat_tests), grind (arith, nat_tests))

argon_front : (old : Bool) (variant : Variant) (version : Version) (m t p : ℕ) (fields behind rest : List (List ℕ)) → VersionIs old fields version behind → behind ≡ argon_numbers m t p ∷ rest
    → (more : List (List ℕ)) × IsFront old (Argon2 version variant m t p) ([] ∷ variant_name variant ∷ more) × (fields ≡ more ++ rest)
unfolding VersionIs IsFront
argon_front old variant V13 m t p fields behind rest (inl h) e = (codes "v=19" ∷ argon_numbers m t p ∷ [], inl (or_right old true refl, refl), h.1 ∙ ap (λ xs. codes "v=19" ∷ xs) e)
argon_front old variant V10 m t p fields behind rest (inl h) e = cc (h.0)
argon_front old variant V13 m t p fields behind rest (inr (inl h)) e = cc (h.1)
argon_front old variant V13 m t p fields behind rest (inr (inr h)) e = cc (h.1)
argon_front old variant V10 m t p fields behind rest (inr (inl h)) e = (codes "v=16" ∷ argon_numbers m t p ∷ [], inl (or_left old false h.0, refl), h.2 ∙ ap (λ xs. codes "v=16" ∷ xs) e)
argon_front old variant V10 m t p fields behind rest (inr (inr h)) e = (argon_numbers m t p ∷ [], inr (and_from old true h.0 refl, refl), h.2 ∙ e)

argon_is : (old : Bool) (variant : Variant) (fields rest : List (List ℕ)) (scheme : Scheme) → argon_at old variant fields ≡ Ok (scheme, rest)
    → (more : List (List ℕ)) × IsFront old scheme ([] ∷ variant_name variant ∷ more) × (fields ≡ more ++ rest)
unfolding argon_at
argon_is old variant fields rest scheme e =
    let version = bind_ok (version_at old fields) _ (scheme, rest) e in
    let numbers = numbers_at_is (codes "m=") (codes "t=") (codes "p=") (argon_of version.0.0 variant) version.0.1 rest scheme version.2 in
    let n = numbers.1 in
    let made = cond_some (argon_fits n.0 n.1 n.2) (Argon2 version.0.0 variant n.0 n.1 n.2) scheme numbers.4 in
    let small = argon_small n.0 n.1 n.2 made.0 in
    let written = numbers_is (codes "m=") (codes "t=") (codes "p=") numbers.0 n numbers.3 small.0 small.1 small.2 in
    let front = argon_front old variant version.0.0 n.0 n.1 n.2 fields version.0.1 rest (version_is old fields version.0.1 version.0.0 version.1) (numbers.2 ∙ ap (λ f. f ∷ rest) written) in
    rw (← made.1) front

scrypt_is : (old : Bool) (fields rest : List (List ℕ)) (scheme : Scheme) → scrypt_at fields ≡ Ok (scheme, rest)
    → (more : List (List ℕ)) × IsFront old scheme ([] ∷ codes "scrypt" ∷ more) × (fields ≡ more ++ rest)
unfolding scrypt_at IsFront
scrypt_is old fields rest scheme e =
    let numbers = numbers_at_is (codes "ln=") (codes "r=") (codes "p=") scrypt_of fields rest scheme e in
    let n = numbers.1 in
    let made = cond_some (scrypt_fits n.0 n.1 n.2) (Scrypt n.0 n.1 n.2) scheme numbers.4 in
    let small = scrypt_small n.0 n.1 n.2 made.0 in
    let written = numbers_is (codes "ln=") (codes "r=") (codes "p=") numbers.0 n numbers.3 small.0 small.1 small.2 in
    rw (← made.1) (scrypt_numbers n.0 n.1 n.2 ∷ [], inl (or_right old true refl, refl), numbers.2 ∙ ap (λ f. f ∷ rest) written)

named_is : (old : Bool) (name : SchemeName) (fields rest : List (List ℕ)) (scheme : Scheme) → named_at old name fields ≡ Ok (scheme, rest)
    → (more : List (List ℕ)) × IsFront old scheme ([] ∷ name_text name ∷ more) × (fields ≡ more ++ rest)
named_is old (NamesArgon2 variant) fields rest scheme e = argon_is old variant fields rest scheme e
named_is old NamesScrypt fields rest scheme e = scrypt_is old fields rest scheme e

empty_is : (xs : List ℕ) → (length xs == 0) ≡ true → xs ≡ []
empty_is [] h = refl
empty_is (x ∷ xs) h = absurd (omega (arith, eqb-true _ _ h))

-- fields that are read as a scheme begin with the scheme's fields
pub scheme_is : (old : Bool) (fields rest : List (List ℕ)) (scheme : Scheme) → scheme_at old fields ≡ Ok (scheme, rest)
    → (front : List (List ℕ)) × IsFront old scheme front × (fields ≡ front ++ rest)
unfolding scheme_at
scheme_is old fields rest scheme e =
    let front = bind_ok (next fields) _ (scheme, rest) e in
    let bare = bind_ok (guard (length front.0.0 == 0) Shape) _ (scheme, rest) front.2 in
    let field = bind_ok (next front.0.1) _ (scheme, rest) bare.2 in
    let name = bind_ok (ok_or (name_of field.0.0) NoScheme) _ (scheme, rest) field.2 in
    let named = named_is old name.0 field.0.1 rest scheme name.2 in
    let front_is = empty_is front.0.0 (guard_ok _ Shape bare.0 bare.1) in
    let name_is = name_is field.0.0 name.0 (ok_or_ok _ NoScheme name.0 name.1) in
    let behind : front.0.1 ≡ name_text name.0 ∷ named.0 ++ rest = next_ok front.0.1 field.0 field.1 ∙ ap₂ (λ f fs. f ∷ fs) name_is named.2 in
    let whole = next_ok fields front.0 front.1 ∙ ap₂ (λ f fs. f ∷ fs) front_is behind in
    ([] ∷ name_text name.0 ∷ named.0, named.1, whole)

numbers_at-text : (x y z field : List ℕ) (scheme_of : ℕ × ℕ × ℕ → Option Scheme) (n : ℕ × ℕ × ℕ) (scheme : Scheme) (rest : List (List ℕ))
    → numbers_of x y z field ≡ Some n → scheme_of n ≡ Some scheme → numbers_at x y z scheme_of (field ∷ rest) ≡ Ok (scheme, rest)
unfolding numbers_at
numbers_at-text x y z field scheme_of n scheme rest read made = rw (read, made) refl

argon_numbers_at : (version : Version) (variant : Variant) (m t p : ℕ) (rest : List (List ℕ)) → argon_fits m t p ≡ true
    → numbers_at (codes "m=") (codes "t=") (codes "p=") (argon_of version variant) (argon_numbers m t p ∷ rest) ≡ Ok (Argon2 version variant m t p, rest)
argon_numbers_at version variant m t p rest fits =
    let small = argon_small m t p fits in
    numbers_at-text (codes "m=") (codes "t=") (codes "p=") (argon_numbers m t p) (argon_of version variant) (m, t, p) (Argon2 version variant m t p) rest
    (numbers_of-text (codes "m=") (codes "t=") (codes "p=") m t p refl refl refl small.0 small.1 small.2) (rw fits refl)

scrypt_numbers_at : (ln r p : ℕ) (rest : List (List ℕ)) → scrypt_fits ln r p ≡ true → scrypt_at (scrypt_numbers ln r p ∷ rest) ≡ Ok (Scrypt ln r p, rest)
unfolding scrypt_at
scrypt_numbers_at ln r p rest fits =
    let small = scrypt_small ln r p fits in
    numbers_at-text (codes "ln=") (codes "r=") (codes "p=") (scrypt_numbers ln r p) scrypt_of (ln, r, p) (Scrypt ln r p) rest
    (numbers_of-text (codes "ln=") (codes "r=") (codes "p=") ln r p refl refl refl small.0 small.1 small.2) (rw fits refl)

variant_named : (variant : Variant) → name_of (variant_name variant) ≡ Some (NamesArgon2 variant)
variant_named D = refl
variant_named I = refl
variant_named Id = refl

scheme_at-name : (old : Bool) (name : SchemeName) (field : List ℕ) (more : List (List ℕ)) → name_of field ≡ Some name → scheme_at old ([] ∷ field ∷ more) ≡ named_at old name more
unfolding scheme_at
scheme_at-name old name field more e = rw e refl

-- the fields of a scheme are read as it
pub scheme_at-front : (old : Bool) (front rest : List (List ℕ)) (scheme : Scheme) → scheme_fits scheme ≡ true → IsFront old scheme front
    → scheme_at old (front ++ rest) ≡ Ok (scheme, rest)
unfolding IsFront argon_at version_at
scheme_at-front old front rest (Argon2 V13 variant m t p) fits (inl h) =
    rw h.1 (scheme_at-name old (NamesArgon2 variant) (variant_name variant) _ (variant_named variant) ∙ argon_numbers_at V13 variant m t p rest fits)
scheme_at-front true front rest (Argon2 V10 variant m t p) fits (inl h) =
    rw h.1 (scheme_at-name true (NamesArgon2 variant) (variant_name variant) _ (variant_named variant) ∙ argon_numbers_at V10 variant m t p rest fits)
scheme_at-front true front rest (Argon2 V10 variant m t p) fits (inr h) =
    rw h.1 (scheme_at-name true (NamesArgon2 variant) (variant_name variant) _ (variant_named variant) ∙ argon_numbers_at V10 variant m t p rest fits)
scheme_at-front false front rest (Argon2 V10 variant m t p) fits (inl h) = cc (h.0)
scheme_at-front false front rest (Argon2 V10 variant m t p) fits (inr h) = cc (h.0)
scheme_at-front old front rest (Argon2 V13 variant m t p) fits (inr h) = let no = second_so old false h.0 in cc no
scheme_at-front old front rest (Scrypt ln r p) fits (inl h) =
    rw h.1 (scheme_at-name old NamesScrypt (codes "scrypt") _ refl ∙ scrypt_numbers_at ln r p rest fits)
scheme_at-front old front rest (Scrypt ln r p) fits (inr h) = let no = second_so old false h.0 in cc no

-- version 0x10 is refused if it isn't allowed
pub old_scheme_refused : (scheme : Scheme) (rest : List (List ℕ)) → is_current scheme ≡ false → scheme_at false (scheme_fields scheme ++ rest) ≡ Err WrongVersion
unfolding argon_at version_at
old_scheme_refused (Argon2 V10 variant m t p) rest old = scheme_at-name false (NamesArgon2 variant) (variant_name variant) _ (variant_named variant)
old_scheme_refused _ rest old = cc old
