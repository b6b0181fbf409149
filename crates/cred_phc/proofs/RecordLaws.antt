-- The laws of reading: a text is read as a value exactly if it is the value's text.
use Rattle.std.proofs.Common.{◌≡◌, ◌∙◌, ℕ, Bool, ◌≤◌, nat_lt, not, true, false, List, [], ◌∷◌, ◌++◌, length, Some, Result, Ok, Err, IfOk, inl, inr, arith, refl, sym, ap, subst, append_assoc, length-append, lit≤, nat_le}
use borrow.Author.Tests.{leb-true, le-ltb, not-true}
use Rattle.std.specs.{Cmp.second_so, List.join_with_byte, Option.ok_or}
use Rattle.base64.specs.GeneralPurpose.{IsBytes}
use Rattle.cred_phc.specs.declared.error.PhcError.{PhcError}
use Rattle.cred_phc.specs.declared.error.PhcError.TheVariants.{Salt, Tag, TooLong, Version as WrongVersion}
use Rattle.cred_phc.specs.{declared.setting.Scheme.Scheme, declared.setting.Scheme.TheVariants.Argon2}
use Rattle.cred_phc.specs.{Names.variant_name, Names.version_text, Base64.base64, Base64.bytes_of, Pieces.pieces}
use Rattle.cred_phc.specs.Ranges.{between, is_current, salt_low}
use Rattle.cred_phc.specs.Reading.{next, end, scheme_at, setting_at, tag_at, fields_of, read_setting, read_record}
use Rattle.cred_phc.specs.Text.{argon_numbers, scheme_fields, bare_fields, setting_text, record_text, bare_text, IsSettingText, IsRecordText}
use Rattle.cred_phc.specs.Values.{SettingValue, setting_of, RecordValue, record_of, IsSetting, IsTag, IsRecord}
use Rattle.cred_argon.specs.declared.kind.Version.TheVariants.{V10}
use Rattle.cred_phc.proofs.Base64Laws.{bytes_of_is, bytes_of-base64, lacks-base64, length-base64}
use Rattle.cred_phc.proofs.PieceLaws.{AllLack, pieces-join_front, join-pieces}
use Rattle.cred_phc.proofs.SchemeLaws.{IsFront, scheme_is, scheme_at-front, old_scheme_refused}
use Rattle.cred_phc.proofs.StepLaws.{bind_ok, ok_or_ok, next_ok, ok_pair, err_choice, end_ok}
use Rattle.cred_phc.proofs.TextLaws.{room, length-join, room-append, AllLack-append, scheme_fields_fit, front_fits, field_bytes}

-- the fields of a scheme, and the letters of a salt
SettingIs : Bool → List (List ℕ) → SettingValue → List (List ℕ) → Type 0
SettingIs old fields v rest = (front : List (List ℕ)) × (field : List ℕ) × IsFront old v.scheme front × (fields ≡ front ++ field ∷ rest) × (bytes_of (salt_low v.scheme) 48 field ≡ Some v.salt)

setting_from : (old : Bool) (fields front behind rest rest' : List (List ℕ)) (field salt : List ℕ) (scheme : Scheme) (v : SettingValue) → IsFront old scheme front
    → fields ≡ front ++ behind → behind ≡ field ∷ rest' → bytes_of (salt_low scheme) 48 field ≡ Some salt → setting_of scheme salt ≡ v → rest' ≡ rest → SettingIs old fields v rest
unfolding SettingIs
setting_from old fields front behind rest rest' field salt scheme v is whole next_is read same last =
    rw (← same, ← last) (front, field, is, whole ∙ ap (λ fs. front ++ fs) next_is, read)

setting_is : (old : Bool) (fields rest : List (List ℕ)) (v : SettingValue) → setting_at old fields ≡ Ok (v, rest) → SettingIs old fields v rest
unfolding setting_at
setting_is old fields rest v e =
    let scheme = bind_ok (scheme_at old fields) _ (v, rest) e in
    let field = bind_ok (next scheme.0.1) _ (v, rest) scheme.2 in
    let salt = bind_ok (ok_or (bytes_of (salt_low scheme.0.0) 48 field.0.0) Salt) _ (v, rest) field.2 in
    let is = ok_pair (setting_of scheme.0.0 salt.0) v field.0.1 rest salt.2 in
    let front = scheme_is old fields scheme.0.1 scheme.0.0 scheme.1 in
    setting_from old fields front.0 scheme.0.1 rest field.0.1 field.0.0 salt.0 scheme.0.0 v front.1 front.2 (next_ok scheme.0.1 field.0 field.1) (ok_or_ok _ Salt salt.0 salt.1) is.0 is.1

tag_is : (fields rest : List (List ℕ)) (tag : List ℕ) → tag_at fields ≡ Ok (tag, rest) → (field : List ℕ) × (fields ≡ field ∷ rest) × (bytes_of 4 64 field ≡ Some tag)
unfolding tag_at
tag_is fields rest tag e =
    let field = bind_ok (next fields) _ (tag, rest) e in
    let read = bind_ok (ok_or (bytes_of 4 64 field.0.0) Tag) _ (tag, rest) field.2 in
    let is = ok_pair read.0 tag field.0.1 rest read.2 in
    (field.0.0, next_ok fields field.0 field.1 ∙ ap (λ r. field.0.0 ∷ r) is.1, ok_or_ok _ Tag read.0 read.1 ∙ ap Some is.0)

fields_is : (text : List ℕ) (fields : List (List ℕ)) → fields_of text ≡ Ok fields → text ≡ join_with_byte 36 fields
unfolding fields_of
fields_is text fields e =
    let is = err_choice (nat_lt 512 (length text)) TooLong fields _ e in
    let cut : pieces 36 text ≡ fields = cc (is.1) in
    join-pieces 36 text fields cut

-- a field that stands for bytes has their letters
letters_are : (text : List ℕ) (front : List (List ℕ)) (field : List ℕ) (back : List (List ℕ)) (low high : ℕ) (bytes : List ℕ) → IsBytes text
    → text ≡ join_with_byte 36 (front ++ field ∷ back) → bytes_of low high field ≡ Some bytes → text ≡ join_with_byte 36 (front ++ base64 bytes ∷ back)
letters_are text front field back low high bytes is_bytes whole read =
    let letters = bytes_of_is low high field bytes (field_bytes 36 front field back (subst IsBytes whole is_bytes)) read in
    whole ∙ ap (λ f. join_with_byte 36 (front ++ f ∷ back)) letters

setting_text_is : (text : List ℕ) (v : SettingValue) (front : List (List ℕ)) → IsFront false v.scheme front → text ≡ join_with_byte 36 (front ++ base64 v.salt ∷ []) → IsSettingText text v
unfolding setting_text IsFront
setting_text_is text v front (inl h) whole = (h.0, whole ∙ ap (λ f. join_with_byte 36 (f ++ base64 v.salt ∷ [])) h.1)
setting_text_is text v front (inr h) whole = cc (h.0)

-- a text that is read as a setting is the setting's text
pub found_setting : (text : List ℕ) (v : SettingValue) → IsBytes text → read_setting text ≡ Ok v → IsSettingText text v
unfolding read_setting SettingIs
found_setting text v is_bytes e =
    let fields = bind_ok (fields_of text) _ v e in
    let setting = bind_ok (setting_at false fields.0) _ v fields.2 in
    let done = bind_ok (end setting.0.1) _ v setting.2 in
    let same : setting.0.0 ≡ v = cc (done.2) in
    let is = setting_is false fields.0 setting.0.1 setting.0.0 setting.1 in
    let last : fields.0 ≡ is.0 ++ is.1 ∷ [] = is.3 ∙ ap (λ r. is.0 ++ is.1 ∷ r) (end_ok setting.0.1 done.0 done.1) in
    let whole = fields_is text fields.0 fields.1 ∙ ap (join_with_byte 36) last in
    let letters = letters_are text is.0 is.1 [] _ 48 setting.0.0.salt is_bytes whole is.4 in
    subst (λ w. IsSettingText text w) same (setting_text_is text setting.0.0 is.0 is.2 letters)

-- both fields of letters
record_letters : (text : List ℕ) (front : List (List ℕ)) (salt_field tag_field salt tag : List ℕ) (low : ℕ) → IsBytes text
    → text ≡ join_with_byte 36 (front ++ salt_field ∷ tag_field ∷ []) → bytes_of low 48 salt_field ≡ Some salt → bytes_of 4 64 tag_field ≡ Some tag
    → text ≡ join_with_byte 36 (front ++ base64 salt ∷ base64 tag ∷ [])
record_letters text front salt_field tag_field salt tag low is_bytes whole salt_read tag_read =
    let regroup = append_assoc front (base64 salt ∷ []) in
    let first = letters_are text front salt_field (tag_field ∷ []) low 48 salt is_bytes whole salt_read in
    let both = letters_are text (front ++ base64 salt ∷ []) tag_field [] 4 64 tag is_bytes (first ∙ ap (join_with_byte 36) (sym (regroup (tag_field ∷ [])))) tag_read in
    both ∙ ap (join_with_byte 36) (regroup (base64 tag ∷ []))

record_text_is : (text : List ℕ) (v : RecordValue) (front : List (List ℕ)) → IsFront true v.setting.scheme front
    → text ≡ join_with_byte 36 (front ++ base64 v.setting.salt ∷ base64 v.tag ∷ []) → IsRecordText text v
unfolding record_text bare_text IsFront
record_text_is text v front (inl h) whole = inl (whole ∙ ap (λ f. join_with_byte 36 (f ++ base64 v.setting.salt ∷ base64 v.tag ∷ [])) h.1)
record_text_is text v front (inr h) whole = inr (not-true _ h.0, whole ∙ ap (λ f. join_with_byte 36 (f ++ base64 v.setting.salt ∷ base64 v.tag ∷ [])) h.1)

-- a text that is read as a record is the record's text
pub found_record : (text : List ℕ) (v : RecordValue) → IsBytes text → read_record text ≡ Ok v → IsRecordText text v
unfolding read_record SettingIs
found_record text v is_bytes e =
    let fields = bind_ok (fields_of text) _ v e in
    let setting = bind_ok (setting_at true fields.0) _ v fields.2 in
    let tag = bind_ok (tag_at setting.0.1) _ v setting.2 in
    let done = bind_ok (end tag.0.1) _ v tag.2 in
    let same : record_of setting.0.0 tag.0.0 ≡ v = cc (done.2) in
    let is = setting_is true fields.0 setting.0.1 setting.0.0 setting.1 in
    let last = tag_is setting.0.1 tag.0.1 tag.0.0 tag.1 in
    let behind : setting.0.1 ≡ last.0 ∷ [] = last.1 ∙ ap (λ l. last.0 ∷ l) (end_ok tag.0.1 done.0 done.1) in
    let whole = fields_is text fields.0 fields.1 ∙ ap (join_with_byte 36) (is.3 ∙ ap (λ r. is.0 ++ is.1 ∷ r) behind) in
    let letters = record_letters text is.0 is.1 last.0 setting.0.0.salt tag.0.0 _ is_bytes whole is.4 last.2 in
    subst (λ w. IsRecordText text w) same (record_text_is text (record_of setting.0.0 tag.0.0) is.0 is.2 letters)

letters_fit : (bytes : List ℕ) (low high : ℕ) → between low high (length bytes) ≡ true → high ≤ 64 → length (base64 bytes) ≤ 86
letters_fit bytes low high fits small = rw length-base64 (omega (arith, leb-true (length bytes) high (second_so (nat_le low (length bytes)) _ fits)))

fields_of-join : (front : List (List ℕ)) (field : List ℕ) (back : List (List ℕ)) → AllLack 36 (front ++ field ∷ back) → room (front ++ field ∷ back) ≤ 512
    → fields_of (join_with_byte 36 (front ++ field ∷ back)) ≡ Ok (front ++ field ∷ back)
unfolding fields_of
fields_of-join front field back lack fits =
    let short : nat_lt 512 (length (join_with_byte 36 (front ++ field ∷ back))) ≡ false = le-ltb 512 _ (omega (arith, length-join 36 (front ++ field ∷ back))) in
    rw (short, pieces-join_front 36 front field back lack) refl

setting_at-front : (old : Bool) (v : SettingValue) (front rest : List (List ℕ)) → IsSetting v → IsFront old v.scheme front
    → setting_at old (front ++ base64 v.salt ∷ rest) ≡ Ok (v, rest)
unfolding setting_at
setting_at-front old v front rest h is =
    rw (scheme_at-front old front (base64 v.salt ∷ rest) v.scheme h.scheme is, bytes_of-base64 (salt_low v.scheme) 48 v.salt h.bytes h.salt) refl

setting_cut : (v : SettingValue) → IsSetting v → fields_of (setting_text v) ≡ Ok (scheme_fields v.scheme ++ base64 v.salt ∷ [])
unfolding setting_text room
setting_cut v h =
    let fits = scheme_fields_fit v.scheme h.scheme in
    let lack = AllLack-append 36 (scheme_fields v.scheme) (base64 v.salt ∷ []) fits.0 (lacks-base64 v.salt, tt) in
    let small : room (scheme_fields v.scheme ++ base64 v.salt ∷ []) ≤ 512 = rw room-append (omega (arith, fits.1, letters_fit v.salt (salt_low v.scheme) 48 h.salt (lit≤ tt))) in
    fields_of-join (scheme_fields v.scheme) (base64 v.salt) [] lack small

-- the text of a setting is read as it
pub only_setting : (text : List ℕ) (v : SettingValue) → IsSetting v → IsSettingText text v → read_setting text ≡ Ok v
unfolding read_setting IsFront
only_setting text v h is = rw (is.1, setting_cut v h, setting_at-front false v (scheme_fields v.scheme) [] h (inl (is.0, refl))) refl

-- no reader reads the text of a setting of version 0x10
pub old_setting : (v : SettingValue) → IsSetting v → is_current v.scheme ≡ false → read_setting (setting_text v) ≡ Err WrongVersion
unfolding read_setting setting_at
old_setting v h old = rw (setting_cut v h, old_scheme_refused v.scheme (base64 v.salt ∷ []) old) refl

tag_at-letters : (tag : List ℕ) → IsTag tag → tag_at (base64 tag ∷ []) ≡ Ok (tag, [])
unfolding tag_at
tag_at-letters tag h = rw (bytes_of-base64 4 64 tag h.bytes h.fits) refl

record_read : (v : RecordValue) (front : List (List ℕ)) → IsRecord v → IsFront true v.setting.scheme front
    → read_record (join_with_byte 36 (front ++ base64 v.setting.salt ∷ base64 v.tag ∷ [])) ≡ Ok v
unfolding read_record room
record_read v front h is =
    let fits = front_fits true v.setting.scheme front h.setting.scheme is in
    let lack = AllLack-append 36 front (base64 v.setting.salt ∷ base64 v.tag ∷ []) fits.0 (lacks-base64 v.setting.salt, (lacks-base64 v.tag, tt)) in
    let salt_fits = letters_fit v.setting.salt (salt_low v.setting.scheme) 48 h.setting.salt (lit≤ tt) in
    let tag_fits = letters_fit v.tag 4 64 h.tag.fits (lit≤ tt) in
    let small : room (front ++ base64 v.setting.salt ∷ base64 v.tag ∷ []) ≤ 512 = rw room-append (omega (arith, fits.1)) in
    rw (fields_of-join front (base64 v.setting.salt) (base64 v.tag ∷ []) lack small, setting_at-front true v.setting front (base64 v.tag ∷ []) h.setting is, tag_at-letters v.tag h.tag) refl

-- the texts of a record are read as it
pub only_record : (text : List ℕ) (v : RecordValue) → IsRecord v → IsRecordText text v → read_record text ≡ Ok v
unfolding record_text bare_text IsFront
only_record text v h (inl is) = rw is (record_read v (scheme_fields v.setting.scheme) h (inl (refl, refl)))
only_record text v h (inr is) = rw is.1 (record_read v (bare_fields v.setting.scheme) h (inr (ap not is.0, refl)))

-- no text stands for two values
pub one_setting : (text : List ℕ) (v w : SettingValue) → IsSetting v → IsSetting w → IsSettingText text v → IsSettingText text w → v ≡ w
one_setting text v w hv hw tv tw = let same = sym (only_setting text v hv tv) ∙ only_setting text w hw tw in cc same

pub one_record : (text : List ℕ) (v w : RecordValue) → IsRecord v → IsRecord w → IsRecordText text v → IsRecordText text w → v ≡ w
one_record text v w hv hw tv tw = let same = sym (only_record text v hv tv) ∙ only_record text w hw tw in cc same

pub read_back : (v : RecordValue) → IsRecord v → read_record (record_text v) ≡ Ok v
read_back v h = only_record (record_text v) v h (inl refl)

-- the version takes five bytes more
longer : (name version more : List ℕ) → name ++ (36 ∷ (version ++ (36 ∷ more))) ≡ name ++ (36 ∷ more) → ⊥
longer name version more same =
    let sizes = ap length same in
    omega (arith, length-append name (36 ∷ (version ++ (36 ∷ more))), length-append version (36 ∷ more), length-append name (36 ∷ more), sizes)

old_differ : (scheme : Scheme) (salt tag : List ℕ) → is_current scheme ≡ false
    → join_with_byte 36 (scheme_fields scheme ++ salt ∷ tag ∷ []) ≡ join_with_byte 36 (bare_fields scheme ++ salt ∷ tag ∷ []) → ⊥
old_differ (Argon2 V10 variant m t p) salt tag old same =
    longer (36 ∷ variant_name variant) (version_text V10) (join_with_byte 36 (argon_numbers m t p ∷ salt ∷ tag ∷ [])) same
old_differ _ salt tag old same = cc old

pub old_texts_differ : (v : RecordValue) → is_current v.setting.scheme ≡ false → record_text v ≡ bare_text v → ⊥
unfolding record_text bare_text
old_texts_differ v old same = old_differ v.setting.scheme (base64 v.setting.salt) (base64 v.tag) old same

-- a reader's answer is a value in its ranges whose text was read
pub both_of : {A : Type 0} (P Q : A → Type 0) (r read : Result A PhcError) → r ≡ read → IfOk r P → ((v : A) → read ≡ Ok v → Q v) → IfOk r (λ v. P v × Q v)
both_of P Q (Ok v) read same fits text = (fits, text v (sym same))
both_of P Q (Err e) read same fits text = tt
