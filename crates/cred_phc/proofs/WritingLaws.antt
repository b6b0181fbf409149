-- Texts are written field by field.
use Rattle.std.proofs.Common.{◌≡◌, ◌∙◌, ℕ, List, [], ◌∷◌, ◌++◌, drop, refl, sym, ap, append_assoc}
use Rattle.std.specs.List.{join_with_byte}
use Rattle.cred_phc.specs.{declared.setting.Scheme.Scheme, declared.setting.Scheme.TheVariants.Argon2, declared.setting.Scheme.TheVariants.Scrypt, Base64.base64}
use Rattle.cred_phc.specs.{Text.scheme_fields, Text.scheme_text, Text.setting_text, Text.record_text, Values.SettingValue, Values.RecordValue}

join-push : (byte : ℕ) (first : List ℕ) (more : List (List ℕ)) (last : List ℕ) → join_with_byte byte (first ∷ more ++ last ∷ []) ≡ join_with_byte byte (first ∷ more) ++ byte ∷ last
join-push byte first [] last = refl
join-push byte first (next ∷ more) last = ap (λ xs. first ++ byte ∷ xs) (join-push byte next more last) ∙ sym (append_assoc first (byte ∷ join_with_byte byte (next ∷ more)) (byte ∷ last))

setting_joined : (scheme : Scheme) (last : List ℕ) → join_with_byte 36 (scheme_fields scheme ++ last ∷ []) ≡ join_with_byte 36 (scheme_fields scheme) ++ 36 ∷ last
setting_joined (Argon2 version variant m t p) last = join-push 36 [] (drop 1 (scheme_fields (Argon2 version variant m t p))) last
setting_joined (Scrypt ln r p) last = join-push 36 [] (drop 1 (scheme_fields (Scrypt ln r p))) last

record_joined : (scheme : Scheme) (salt last : List ℕ) → join_with_byte 36 (scheme_fields scheme ++ salt ∷ last ∷ []) ≡ join_with_byte 36 (scheme_fields scheme ++ salt ∷ []) ++ 36 ∷ last
record_joined (Argon2 version variant m t p) salt last = join-push 36 [] (drop 1 (scheme_fields (Argon2 version variant m t p)) ++ salt ∷ []) last
record_joined (Scrypt ln r p) salt last = join-push 36 [] (drop 1 (scheme_fields (Scrypt ln r p)) ++ salt ∷ []) last

-- the salt comes after the scheme
pub setting_written : (v : SettingValue) (start between after salt : List ℕ) (scheme : Scheme) → start ≡ [] → scheme ≡ v.scheme → salt ≡ v.salt
    → between ≡ start ++ scheme_text scheme → after ≡ between ++ 36 ∷ base64 salt → after ≡ setting_text v
unfolding setting_text scheme_text
setting_written v start between after salt scheme none same_scheme same_salt first last =
    let front : between ≡ join_with_byte 36 (scheme_fields v.scheme) = first ∙ rw (none, same_scheme) refl in
    last ∙ rw (front, same_salt) (sym (setting_joined v.scheme (base64 v.salt)))

-- the tag comes after the setting
pub record_written : (v : RecordValue) (between after : List ℕ) → between ≡ setting_text v.setting → after ≡ between ++ 36 ∷ base64 v.tag → after ≡ record_text v
unfolding record_text setting_text
record_written v between after setting tag =
    tag ∙ ap (λ xs. xs ++ 36 ∷ base64 v.tag) setting ∙ sym (record_joined v.setting.scheme (base64 v.setting.salt) (base64 v.tag))
