-- The test of two records is equality.
use Rattle.std.proofs.Common.{◌≡◌, Bool, ◌&&◌, Option, Some, None, refl, ap, ◌∙◌}
use Rattle.std.proofs.{lemmas.Bool.Decides.Decides-and, lemmas.Bool.Decides.Decides-like, lemmas.Bool.Decides.Decides-eqb, lemmas.Slice.Eq.bytes_eq-Decides}
use Rattle.std.specs.Bool.{Decides}
use Rattle.cred_phc.specs.{declared.setting.Scheme.Scheme, declared.setting.Scheme.TheVariants.Argon2, declared.setting.Scheme.TheVariants.Scrypt}
use Rattle.cred_phc.specs.{Names.Version, Names.V10, Names.V13, declared.setting.Variant.Variant}
use Rattle.cred_phc.specs.declared.setting.Variant.TheVariants.{D, I, Id}
use Rattle.cred_phc.specs.Values.{RecordValue, setting_of, record_of}
use Rattle.cred_book.specs.Works.{same_version, same_variant, same_scheme, same_record, same}

version : (a b : Version) → Decides (same_version a b) (a ≡ b)
version V10 V10 = (λ _. refl, λ _. refl)
version V13 V13 = (λ _. refl, λ _. refl)
version _ _ = (λ h. cc, λ e. cc)

variant : (a b : Variant) → Decides (same_variant a b) (a ≡ b)
variant D D = (λ _. refl, λ _. refl)
variant I I = (λ _. refl, λ _. refl)
variant Id Id = (λ _. refl, λ _. refl)
variant _ _ = (λ h. cc, λ e. cc)

-- two tests of two parts
both : {P Q R : Type 0} (x y : Bool) → Decides x P → Decides y Q → (P → Q → R) → (R → P) → (R → Q) → Decides (x && y) R
both x y p q make first second = Decides-like (x && y) (λ h. make h.0 h.1) (λ r. (first r, second r)) (Decides-and x y p q)

pub scheme : (a b : Scheme) → Decides (same_scheme a b) (a ≡ b)
scheme (Argon2 v k m t p) (Argon2 v' k' m' t' p') =
    both _ _ (version v v') (both _ _ (variant k k') (both _ _ (Decides-eqb m m') (both _ _ (Decides-eqb t t') (Decides-eqb p p')
    (λ e f. (e, f)) (λ h. h.0) (λ h. h.1)) (λ e f. (e, f)) (λ h. h.0) (λ h. h.1)) (λ e f. (e, f)) (λ h. h.0) (λ h. h.1))
    (λ (e : v ≡ v') (f : (k ≡ k') × ((m ≡ m') × ((t ≡ t') × (p ≡ p')))). cc) (λ h. cc) (λ h. (cc, (cc, (cc, cc))))
scheme (Scrypt ln r p) (Scrypt ln' r' p') =
    both _ _ (Decides-eqb ln ln') (both _ _ (Decides-eqb r r') (Decides-eqb p p') (λ e f. (e, f)) (λ h. h.0) (λ h. h.1))
    (λ (e : ln ≡ ln') (f : (r ≡ r') × (p ≡ p')). cc) (λ h. cc) (λ h. (cc, cc))
scheme _ _ = (λ h. cc, λ e. cc)

equal_parts : (a b : RecordValue) → a.setting.scheme ≡ b.setting.scheme → a.setting.salt ≡ b.setting.salt → a.tag ≡ b.tag → a ≡ b
equal_parts a b scheme salt tag = ap (λ s. record_of (setting_of s a.setting.salt) a.tag) scheme ∙ ap (λ s. record_of (setting_of b.setting.scheme s) a.tag) salt ∙ ap (record_of b.setting) tag

record_decides : (a b : RecordValue) → Decides (same_record a b) (a ≡ b)
record_decides a b =
    both _ _ (scheme a.setting.scheme b.setting.scheme)
    (both _ _ (bytes_eq-Decides a.setting.salt b.setting.salt) (bytes_eq-Decides a.tag b.tag) (λ e f. (e, f)) (λ h. h.0) (λ h. h.1))
    (λ (e : a.setting.scheme ≡ b.setting.scheme) (f : (a.setting.salt ≡ b.setting.salt) × (a.tag ≡ b.tag)). equal_parts a b e f.0 f.1) (λ h. ap (λ r. r.setting.scheme) h) (λ h. (ap (λ r. r.setting.salt) h, ap (λ r. r.tag) h))

pub same-Decides : (a b : Option RecordValue) → Decides (same a b) (a ≡ b)
same-Decides None None = (λ _. refl, λ _. refl)
same-Decides (Some a) (Some b) = Decides-like (same_record a b) (λ e. ap Some e) (λ e. cc) (record_decides a b)
same-Decides _ _ = (λ h. cc, λ e. cc)
