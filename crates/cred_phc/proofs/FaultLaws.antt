-- Reading fails with the fault of the table.
use Rattle.std.proofs.Common.{◌≡◌, ◌∙◌, ℕ, ◌==◌, nat_lt, Bool, true, false, not, List, [], ◌∷◌, ◌++◌, length, take, Option, Some, None, is_some, Result, Ok, Err, IfErr, OnOk, codes, refl, sym, ap, if◌then◌else◌}
use Rattle.std.specs.{Str.bytes_eq, Option.ok_or}
use Rattle.cred_phc.specs.declared.error.PhcError.{PhcError}
use Rattle.cred_phc.specs.declared.error.PhcError.TheVariants.{Shape, Version as WrongVersion, Params, Range, Salt, Tag, TooLong, Scheme as NoScheme}
use Rattle.cred_phc.specs.{declared.setting.Scheme.Scheme, declared.setting.Scheme.TheVariants.Argon2, declared.setting.Scheme.TheVariants.Scrypt}
use Rattle.cred_phc.specs.{declared.setting.Variant.Variant, declared.setting.SchemeName.SchemeName}
use Rattle.cred_phc.specs.{declared.setting.SchemeName.TheVariants.Argon2 as NamesArgon2, declared.setting.SchemeName.TheVariants.Scrypt as NamesScrypt, Base64.bytes_of}
use Rattle.cred_phc.specs.Faults.{Judge, unless, numbers_fault, bytes_fault, judges_of, first, judgement, version_fault, named_fault, fields_fault, setting_fault, record_fault}
use Rattle.cred_phc.specs.{Fields.name_of, Fields.numbers_of, Pieces.pieces, Ranges.argon_fits, Ranges.scrypt_fits, Ranges.salt_low}
use Rattle.cred_phc.specs.Reading.{◌>>=◌, guard, next, end, argon_of, version_at, numbers_at, argon_at, scrypt_at, named_at, scheme_at, setting_at, tag_at, fields_of, read_setting, read_record}
use Rattle.cred_phc.specs.Values.{SettingValue, setting_of, record_of}
use Rattle.cred_argon.specs.{declared.kind.Version.Version, declared.kind.Version.TheVariants.V10, declared.kind.Version.TheVariants.V13}

abbrev pub fault_in : {A : Type 0} → Result A PhcError → Option PhcError
fault_in (Ok x) = None
fault_in (Err fault) = Some fault

bind_assoc : {A B C : Type 0} (r : Result A PhcError) (f : A → Result B PhcError) (g : B → Result C PhcError) → ((r >>= f) >>= g) ≡ (r >>= (λ x. f x >>= g))
bind_assoc (Ok x) f g = refl
bind_assoc (Err fault) f g = refl

-- The reading after a field agrees with the judges that are left.
abbrev Agrees : {A B : Type 0} → (A × List (List ℕ) → Result B PhcError) → A → List Judge → Type 0
Agrees follow x judges = (rest : List (List ℕ)) → fault_in (follow (x, rest)) ≡ judgement judges rest

bytes_step : {A B : Type 0} (fault : PhcError) (pack : List ℕ → A) (follow : A × List (List ℕ) → Result B PhcError) (judges : List Judge)
    → ((bytes : List ℕ) → Agrees follow (pack bytes) judges) → (o : Option (List ℕ)) (rest : List (List ℕ))
    → fault_in ((ok_or o fault >>= (λ bytes. Ok (pack bytes, rest))) >>= follow) ≡ first (unless (is_some o) fault) (judgement judges rest)
bytes_step fault pack follow judges h (Some bytes) rest = h bytes rest
bytes_step fault pack follow judges h None rest = refl

-- a field of letters, and what follows it
bytes_law : {A B : Type 0} (low high : ℕ) (fault : PhcError) (pack : List ℕ → A) (follow : A × List (List ℕ) → Result B PhcError) (judges : List Judge)
    → ((bytes : List ℕ) → Agrees follow (pack bytes) judges) → (fields : List (List ℕ))
    → fault_in ((next fields >>= (λ field. ok_or (bytes_of low high field.0) fault >>= (λ bytes. Ok (pack bytes, field.1)))) >>= follow) ≡ judgement (bytes_fault low high fault ∷ judges) fields
bytes_law low high fault pack follow judges h [] = refl
bytes_law low high fault pack follow judges h (field ∷ fields) = bytes_step fault pack follow judges h (bytes_of low high field) fields

range_step : {B : Type 0} (scheme : Scheme) (follow : Scheme × List (List ℕ) → Result B PhcError) (judges : List Judge) → Agrees follow scheme judges
    → (fits : Bool) (rest : List (List ℕ))
    → fault_in ((ok_or (if fits then Some scheme else None) Range >>= (λ made. Ok (made, rest))) >>= follow) ≡ first (unless fits Range) (judgement judges rest)
range_step scheme follow judges h true rest = h rest
range_step scheme follow judges h false rest = refl

numbers_step : {B : Type 0} (fits : ℕ → ℕ → ℕ → Bool) (scheme_of : ℕ × ℕ × ℕ → Scheme) (follow : Scheme × List (List ℕ) → Result B PhcError) (judges : List Judge)
    → ((n : ℕ × ℕ × ℕ) → Agrees follow (scheme_of n) judges) → (o : Option (ℕ × ℕ × ℕ)) (rest : List (List ℕ))
    → fault_in ((ok_or o Params >>= (λ n. ok_or (if fits n.0 n.1 n.2 then Some (scheme_of n) else None) Range >>= (λ made. Ok (made, rest)))) >>= follow)
    ≡ first (numbers_fault fits o) (judgement judges rest)
numbers_step fits scheme_of follow judges h (Some n) rest = range_step (scheme_of n) follow judges (h n) (fits n.0 n.1 n.2) rest
numbers_step fits scheme_of follow judges h None rest = refl

-- the field of the numbers, and what follows it
numbers_law : {B : Type 0} (x y z : List ℕ) (fits : ℕ → ℕ → ℕ → Bool) (scheme_of : ℕ × ℕ × ℕ → Scheme) (follow : Scheme × List (List ℕ) → Result B PhcError) (judges : List Judge)
    → ((n : ℕ × ℕ × ℕ) → Agrees follow (scheme_of n) judges) → (fields : List (List ℕ))
    → fault_in (numbers_at x y z (λ n. if fits n.0 n.1 n.2 then Some (scheme_of n) else None) fields >>= follow)
    ≡ judgement ((λ field. numbers_fault fits (numbers_of x y z field)) ∷ judges) fields
unfolding numbers_at
numbers_law x y z fits scheme_of follow judges h [] = refl
numbers_law x y z fits scheme_of follow judges h (field ∷ fields) = numbers_step fits scheme_of follow judges h (numbers_of x y z field) fields

-- the reading after a scheme agrees with the judges of the salt and of the last field
abbrev FollowsScheme : {B : Type 0} → (Scheme × List (List ℕ) → Result B PhcError) → List Judge → Type 0
FollowsScheme follow last = (scheme : Scheme) → Agrees follow scheme (bytes_fault (salt_low scheme) 48 Salt ∷ last)

-- `version_of` by its four tests
abbrev version_read : Bool → Bool → Bool → Bool → List (List ℕ) → List (List ℕ) → Result (Version × List (List ℕ)) PhcError
version_read new old written named fields behind =
    if new then Ok (V13, behind) else if not old then Err WrongVersion else if written then Ok (V10, behind) else if named then Err WrongVersion else Ok (V10, fields)

abbrev version_judged : Bool → Bool → Bool → Bool → List Judge → List (List ℕ) → List (List ℕ) → Option PhcError
version_judged new old written named judges fields behind =
    if new then judgement judges behind else if not old then Some WrongVersion else if written then judgement judges behind else if named then Some WrongVersion else judgement judges fields

argon_follows : {B : Type 0} (variant : Variant) (follow : Scheme × List (List ℕ) → Result B PhcError) (last : List Judge) → FollowsScheme follow last → (version : Version) (fields : List (List ℕ))
    → fault_in (numbers_at (codes "m=") (codes "t=") (codes "p=") (argon_of version variant) fields >>= follow) ≡ judgement (judges_of (NamesArgon2 variant) ++ last) fields
argon_follows variant follow last h version fields =
    numbers_law (codes "m=") (codes "t=") (codes "p=") argon_fits (λ n. Argon2 version variant n.0 n.1 n.2) follow (bytes_fault 8 48 Salt ∷ last) (λ n. h (Argon2 version variant n.0 n.1 n.2)) fields

version_step : {B : Type 0} (variant : Variant) (follow : Scheme × List (List ℕ) → Result B PhcError) (last : List Judge) → FollowsScheme follow last
    → (new old written named : Bool) (fields behind : List (List ℕ))
    → fault_in ((version_read new old written named fields behind >>= (λ version. numbers_at (codes "m=") (codes "t=") (codes "p=") (argon_of version.0 variant) version.1)) >>= follow)
    ≡ version_judged new old written named (judges_of (NamesArgon2 variant) ++ last) fields behind
version_step variant follow last h true old written named fields behind = argon_follows variant follow last h V13 behind
version_step variant follow last h false true true named fields behind = argon_follows variant follow last h V10 behind
version_step variant follow last h false true false false fields behind = argon_follows variant follow last h V10 fields
version_step variant follow last h _ _ _ _ fields behind = refl

argon_law : {B : Type 0} (old : Bool) (variant : Variant) (follow : Scheme × List (List ℕ) → Result B PhcError) (last : List Judge) → FollowsScheme follow last → (fields : List (List ℕ))
    → fault_in (argon_at old variant fields >>= follow) ≡ version_fault old (judges_of (NamesArgon2 variant) ++ last) fields
unfolding argon_at version_at
argon_law old variant follow last h [] = refl
argon_law old variant follow last h (field ∷ fields) =
    version_step variant follow last h (bytes_eq field (codes "v=19")) old (bytes_eq field (codes "v=16")) (bytes_eq (take 2 field) (codes "v=")) (field ∷ fields) fields

scrypt_law : {B : Type 0} (follow : Scheme × List (List ℕ) → Result B PhcError) (last : List Judge) → FollowsScheme follow last → (fields : List (List ℕ))
    → fault_in (scrypt_at fields >>= follow) ≡ judgement (judges_of NamesScrypt ++ last) fields
unfolding scrypt_at
scrypt_law follow last h fields =
    numbers_law (codes "ln=") (codes "r=") (codes "p=") scrypt_fits (λ n. Scrypt n.0 n.1 n.2) follow (bytes_fault 1 48 Salt ∷ last) (λ n. h (Scrypt n.0 n.1 n.2)) fields

named_law : {B : Type 0} (old : Bool) (follow : Scheme × List (List ℕ) → Result B PhcError) (last : List Judge) → FollowsScheme follow last → (name : Option SchemeName) (fields : List (List ℕ))
    → fault_in ((ok_or name NoScheme >>= (λ name. named_at old name fields)) >>= follow) ≡ named_fault old last name fields
named_law old follow last h None fields = refl
named_law old follow last h (Some (NamesArgon2 variant)) fields = argon_law old variant follow last h fields
named_law old follow last h (Some NamesScrypt) fields = scrypt_law follow last h fields

front_step : {A : Type 0} (bare : Bool) (r : Result A PhcError) (later : Option PhcError) → fault_in r ≡ later
    → fault_in (guard bare Shape >>= (λ _. r)) ≡ first (unless bare Shape) later
front_step true r later h = h
front_step false r later h = refl

no_name : {A B : Type 0} (bare : Bool) (follow : A → Result B PhcError) → fault_in ((guard bare Shape >>= (λ _. Err Shape)) >>= follow) ≡ Some Shape
no_name true follow = refl
no_name false follow = refl

scheme_law : {B : Type 0} (old : Bool) (follow : Scheme × List (List ℕ) → Result B PhcError) (last : List Judge) → FollowsScheme follow last → (fields : List (List ℕ))
    → fault_in (scheme_at old fields >>= follow) ≡ fields_fault old last fields
unfolding scheme_at
scheme_law old follow last h [] = refl
scheme_law old follow last h (front ∷ []) = no_name (length front == 0) follow
scheme_law old follow last h (front ∷ field ∷ fields) =
    ap fault_in (bind_assoc (guard (length front == 0) Shape) _ follow) ∙ front_step (length front == 0) _ _ (named_law old follow last h (name_of field) fields)

setting_law : {B : Type 0} (old : Bool) (follow : SettingValue × List (List ℕ) → Result B PhcError) (last : List Judge) → ((v : SettingValue) → Agrees follow v last) → (fields : List (List ℕ))
    → fault_in (setting_at old fields >>= follow) ≡ fields_fault old last fields
unfolding setting_at
setting_law old follow last h fields =
    ap fault_in (bind_assoc (scheme_at old fields) _ follow)
    ∙ scheme_law old _ last (λ scheme rest. bytes_law (salt_low scheme) 48 Salt (setting_of scheme) follow last (λ salt. h (setting_of scheme salt)) rest) fields

end_law : {A : Type 0} (x : A) (fields : List (List ℕ)) → fault_in (end fields >>= (λ _. Ok x)) ≡ judgement [] fields
end_law x [] = refl
end_law x (field ∷ fields) = refl

tag_law : {A : Type 0} (record_with : List ℕ → A) (fields : List (List ℕ)) → fault_in (tag_at fields >>= (λ tag. end tag.1 >>= (λ _. Ok (record_with tag.0)))) ≡ judgement (bytes_fault 4 64 Tag ∷ []) fields
unfolding tag_at
tag_law record_with fields = bytes_law 4 64 Tag (λ tag. tag) _ [] (λ tag rest. end_law (record_with tag) rest) fields

text_step : {A : Type 0} (long : Bool) (fields : List (List ℕ)) (read : List (List ℕ) → Result A PhcError) (later : Option PhcError) → fault_in (read fields) ≡ later
    → fault_in ((if long then Err TooLong else Ok fields) >>= read) ≡ (if long then Some TooLong else later)
text_step true fields read later h = refl
text_step false fields read later h = h

-- a setting's text is refused with its fault
pub setting_fault_law : (text : List ℕ) → fault_in (read_setting text) ≡ setting_fault text
unfolding read_setting setting_fault fields_of
setting_fault_law text =
    text_step (nat_lt 512 (length text)) (pieces 36 text) _ _ (setting_law false _ [] (λ v rest. end_law v rest) (pieces 36 text))

-- a record's text is refused with its fault
pub record_fault_law : (text : List ℕ) → fault_in (read_record text) ≡ record_fault text
unfolding read_record record_fault fields_of
record_fault_law text =
    text_step (nat_lt 512 (length text)) (pieces 36 text) _ _ (setting_law true _ (bytes_fault 4 64 Tag ∷ []) (λ v rest. tag_law (record_of v) rest) (pieces 36 text))

-- a text is refused with a fault exactly if the table finds that fault
fault_back : {A : Type 0} (read : Result A PhcError) (fault : PhcError) → fault_in read ≡ Some fault → read ≡ Err fault
fault_back (Ok x) fault e = cc e
fault_back (Err other) fault e = cc e

pub fault_is : {A : Type 0} (read : Result A PhcError) (found : Option PhcError) (fault : PhcError) → fault_in read ≡ found
    → ((read ≡ Err fault) → (found ≡ Some fault)) × ((found ≡ Some fault) → (read ≡ Err fault))
fault_is read found fault law = (λ refused. sym law ∙ ap fault_in refused, λ found. fault_back read fault (law ∙ found))

-- the table judges a reader's answer
pub refused_with : {A : Type 0} (r read : Result A PhcError) (fault : Option PhcError) → r ≡ read → fault_in read ≡ fault → IfErr r (λ e. fault ≡ Some e)
refused_with (Ok x) read fault same law = tt
refused_with (Err e) read fault same law = sym law ∙ ap fault_in (sym same)

pub no_fault : {A : Type 0} (r read : Result A PhcError) (fault : Option PhcError) → r ≡ read → fault_in read ≡ fault → OnOk r (fault ≡ None)
no_fault (Ok x) read fault same law = sym law ∙ ap fault_in (sym same)
no_fault (Err e) read fault same law = tt
