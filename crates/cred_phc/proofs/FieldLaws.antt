-- The value of one field, and the one text of a value.
use Rattle.std.proofs.Common.{◌≡◌, ◌∙◌, ℕ, ◌^◌, ◌<◌, Bool, true, false, if◌then◌else◌, List, [], ◌∷◌, ◌++◌, length, take, drop, Option, Some, None, decimal, refl, sym, ap}
use Rattle.std.proofs.{lemmas.List.take-append-drop, lemmas.Slice.Eq.bytes_eq-Decides, Math.Seq.take-append_seam, Math.Seq.drop-append_seam}
use Rattle.std.specs.{Char.is_ascii_digit, Str.bytes_eq}
use Rattle.cred_phc.specs.{Fields.labelled_number, Fields.labelled_numbers, Fields.triple, Fields.numbers_of, Number.number_of, Pieces.pieces}
use Rattle.cred_phc.specs.Text.{label, numbers_text}
use Rattle.cred_phc.proofs.NumberLaws.{number_of-decimal, number_is, lacks-decimal}
use Rattle.cred_phc.proofs.PieceLaws.{lacks, lacks-append, pieces-join, join-pieces}

pub same_bytes : (xs ys : List ℕ) → bytes_eq xs ys ≡ true → xs ≡ ys
same_bytes xs ys = (bytes_eq-Decides xs ys).0

pub bytes_eq_refl : (xs : List ℕ) → bytes_eq xs xs ≡ true
bytes_eq_refl xs = (bytes_eq-Decides xs xs).1 refl

labelled_number-label : (name : List ℕ) (n : ℕ) → n < 2 ^ 64 → labelled_number name (label name n) ≡ Some n
labelled_number-label name n fits = rw (take-append_seam, drop-append_seam, bytes_eq_refl name) (number_of-decimal n fits)

if_read : {A : Type 0} (b : Bool) (o : Option A) (x : A) → (if b then o else None) ≡ Some x → (b ≡ true) × (o ≡ Some x)
if_read true o x e = (refl, e)
if_read false o x e = cc e

labelled_is : (name piece : List ℕ) (n : ℕ) → labelled_number name piece ≡ Some n → n < 2 ^ 64 → piece ≡ label name n
labelled_is name piece n e fits =
    let is = if_read (bytes_eq (take (length name) piece) name) (number_of (drop (length name) piece)) n e in
    sym (take-append-drop (length name) piece) ∙ ap (λ xs. xs ++ drop (length name) piece) (same_bytes _ _ is.0) ∙ ap (λ xs. name ++ xs) (number_is _ n is.1 fits)

pub lacks-label : (byte : ℕ) (name : List ℕ) (n : ℕ) → is_ascii_digit byte ≡ false → lacks byte name ≡ true → n < 2 ^ 64 → lacks byte (label name n) ≡ true
lacks-label byte name n other h fits = lacks-append byte name (decimal n) h (lacks-decimal byte n other fits)

-- three numbers are read from their text
pub numbers_of-text : (x y z : List ℕ) (a b c : ℕ) → lacks 44 x ≡ true → lacks 44 y ≡ true → lacks 44 z ≡ true
    → a < 2 ^ 64 → b < 2 ^ 64 → c < 2 ^ 64 → numbers_of x y z (numbers_text x a y b z c) ≡ Some (a, b, c)
unfolding numbers_of
numbers_of-text x y z a b c hx hy hz fa fb fc =
    let parts = pieces-join 44 (label x a) (label y b ∷ label z c ∷ []) (lacks-label 44 x a refl hx fa, (lacks-label 44 y b refl hy fb, (lacks-label 44 z c refl hz fc, tt))) in
    rw (parts, labelled_number-label x a fa, labelled_number-label y b fb, labelled_number-label z c fc) refl

triple_is : (p q r : Option ℕ) (n : ℕ × ℕ × ℕ) → triple p q r ≡ Some n → (p ≡ Some n.0) × (q ≡ Some n.1) × (r ≡ Some n.2)
triple_is (Some a) (Some b) (Some c) n e =
    let same : ◌≡◌ {A = ℕ × ℕ × ℕ} (a, b, c) n = cc e in (ap (λ m. Some m.0) same, ap (λ m. Some m.1) same, ap (λ m. Some m.2) same)
triple_is _ _ _ n e = cc e

numbers_from : (x y z : List ℕ) (parts : List (List ℕ)) (n : ℕ × ℕ × ℕ) → labelled_numbers x y z parts ≡ Some n
    → n.0 < 2 ^ 64 → n.1 < 2 ^ 64 → n.2 < 2 ^ 64 → parts ≡ label x n.0 ∷ label y n.1 ∷ label z n.2 ∷ []
numbers_from x y z (a ∷ b ∷ c ∷ []) n e f0 f1 f2 =
    let is = triple_is (labelled_number x a) (labelled_number y b) (labelled_number z c) n e in
    rw (labelled_is x a n.0 is.0 f0, labelled_is y b n.1 is.1 f1, labelled_is z c n.2 is.2 f2) refl
numbers_from x y z _ n e f0 f1 f2 = cc e

-- a field that is read as three numbers is their text
pub numbers_is : (x y z field : List ℕ) (n : ℕ × ℕ × ℕ) → numbers_of x y z field ≡ Some n
    → n.0 < 2 ^ 64 → n.1 < 2 ^ 64 → n.2 < 2 ^ 64 → field ≡ numbers_text x n.0 y n.1 z n.2
unfolding numbers_of
numbers_is x y z field n e f0 f1 f2 = join-pieces 44 field _ (numbers_from x y z (pieces 44 field) n e f0 f1 f2)
