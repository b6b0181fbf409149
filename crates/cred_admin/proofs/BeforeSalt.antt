-- The text before a setting's last field.
use Rattle.std.proofs.{Common.◌≡◌, Common.◌+◌, Common.◌-◌, Common.◌*◌, Common.◌/◌, Common.ℕ, Common.List, Common.[], Common.◌∷◌, Common.◌++◌, Common.length, Common.take, Common.refl, Common.sym, Common.ap, Common.◌∙◌, Common.arith, Math.Seq.take-append_seam, lemmas.List.length-append}
use Rattle.cred_phc.specs.{Base64.base64, Text.scheme_text, Text.setting_text, Values.SettingValue}
use Rattle.cred_phc.proofs.{Base64Laws.length-base64, WritingLaws.setting_written}

cut_size : (text front salt : List ℕ) (n : ℕ) → text ≡ front ++ 36 ∷ base64 salt → n ≡ length text - ((4 * length salt + 2) / 3 + 1) → n ≡ length front
cut_size text front salt n is size = omega (arith, size, ap length is, length-append front (36 ∷ base64 salt), length-base64 salt)

-- as much as stands before the salt
pub front_is : (text front salt : List ℕ) (n : ℕ) → text ≡ front ++ 36 ∷ base64 salt → n ≡ length text - ((4 * length salt + 2) / 3 + 1) → take n text ≡ front
front_is text front salt n is size =
    ap (λ m. take m text) (cut_size text front salt n is size) ∙ ap (take (length front)) is ∙ take-append_seam front (36 ∷ base64 salt)

pub setting_cut : (v : SettingValue) → setting_text v ≡ scheme_text v.scheme ++ 36 ∷ base64 v.salt
setting_cut v = sym (setting_written v [] (scheme_text v.scheme) (scheme_text v.scheme ++ 36 ∷ base64 v.salt) v.salt v.scheme refl refl refl refl refl)
