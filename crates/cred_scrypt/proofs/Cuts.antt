-- Bytes cut into pieces of words.
use Rattle.std.proofs.Common.{◌≡◌, ◌<◌, ◌≤◌, ℕ, zero, suc, ◌+◌, ◌*◌, ◌/◌, List, [], ◌∷◌, ◌++◌, length, take, drop, get_or, refl, ◌∙◌, ap, arith, below_more, length-append, length-drop}
use Rattle.std.proofs.{lemmas.List.length-take-le, Math.ListN.get_or-append, Math.Seq.get_or-append_seam}
use Rattle.cred_scrypt.specs.Scrypt.{words_of, piece}

-- a fact of each element, and of one that is pushed, holds of each element afterwards
pub each_pushed : {X : Type 0} (P : ℕ → X → Type 0) (xs : List X) (x : X)
    → ((k : ℕ) (d : X) → k < length xs → P k (get_or xs k d)) → P (length xs) x
    → (k : ℕ) (d : X) → k < length (xs ++ x ∷ []) → P k (get_or (xs ++ x ∷ []) k d)
each_pushed {X} P xs x each last k d h =
    below_more (λ i. P i (get_or (xs ++ x ∷ []) i d)) (length xs)
    (λ i below. rw (get_or-append xs (x ∷ []) d i below) (each i d below))
    (rw (get_or-append_seam xs x [] d) last)
    k (omega (arith, length-append xs (x ∷ [])))

pub length-words_of : (b : List ℕ) (n : ℕ) → length (words_of b n) ≡ n
unfolding words_of
length-words_of b zero = refl
length-words_of b (suc n) =
    simp length-append (omega (arith, length-words_of b n))

-- the words of 128r bytes are a piece
pub cut_is_piece : (r k width : ℕ) (b words : List ℕ) → width ≡ 128 * r → 128 * r * k + 128 * r ≤ length b
    → words ≡ words_of (take width (drop (128 * r * k) b)) (length (take width (drop (128 * r * k) b)) / 4)
    → words ≡ piece r b k
unfolding piece
cut_is_piece r k width b words wide inside was =
    let bytes = take (128 * r) (drop (128 * r * k) b) in
    let long : 128 * r ≤ length (drop (128 * r * k) b) = omega (arith, length-drop (128 * r * k) b) in
    let size : length bytes / 4 ≡ 32 * r =
    omega (arith, length-take-le (128 * r) (drop (128 * r * k) b) long) in
    was ∙ ap (λ n. words_of (take n (drop (128 * r * k) b)) (length (take n (drop (128 * r * k) b)) / 4)) wide
    ∙ ap (words_of bytes) size

pub length-piece : (r k : ℕ) (b : List ℕ) → length (piece r b k) ≡ 32 * r
unfolding piece
length-piece r k b = length-words_of (take (128 * r) (drop (128 * r * k) b)) (32 * r)
