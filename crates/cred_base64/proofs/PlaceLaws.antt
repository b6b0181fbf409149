-- A text by its places: the letter at each is that of the six bits there.
use Rattle.std.proofs.Common.{◌≡◌, ◌∙◌, ℕ, zero, suc, ◌+◌, ◌*◌, ◌/◌, ◌%◌, ◌<◌, ◌≤◌, List, [], ◌∷◌, length, get_or, slice_index, arith, refl, ap, sym, append-nil}
use Rattle.std.proofs.lemmas.Grind.{same_number_lists}
use Rattle.base64.specs.{Engines.standard_no_pad, GeneralPurpose.IsBytes, GeneralPurpose.engine_symbols, Rfc4648.encode_symbols, Rfc4648.unpadded_len}
use Rattle.base64.proofs.RoundTrip.{length-encode_symbols}
use Rattle.cred_base64.specs.{Letters.letter_of, Letters.letters_of, Sextets.sextet_at, Sextets.group_sextet}

pub length-letters : (bytes : List ℕ) → length (letters_of bytes) ≡ unpadded_len (length bytes)
unfolding letters_of
length-letters bytes = rw append-nil (length-encode_symbols (engine_symbols standard_no_pad) bytes)

-- the places after a group of three bytes
sextet_at-next : (a b c : ℕ) (rest : List ℕ) (k : ℕ) → sextet_at (a ∷ b ∷ c ∷ rest) (suc (suc (suc (suc k)))) ≡ sextet_at rest k
unfolding sextet_at
sextet_at-next a b c rest k =
    let which : suc (suc (suc (suc k))) % 4 ≡ k % 4 = omega arith in
    let first : suc (suc (suc (suc k))) / 4 * 3 ≡ suc (suc (suc (k / 4 * 3))) = omega arith in
    let second : suc (suc (suc (suc k))) / 4 * 3 + 1 ≡ suc (suc (suc (k / 4 * 3 + 1))) = omega arith in
    let third : suc (suc (suc (suc k))) / 4 * 3 + 2 ≡ suc (suc (suc (k / 4 * 3 + 2))) = omega arith in
    rw (which, third, second, first) refl

symbols_at : (table bytes : List ℕ) (k : ℕ) → k < length (encode_symbols table bytes)
    → get_or (encode_symbols table bytes) k 0 ≡ get_or table (sextet_at bytes k) 0
unfolding encode_symbols sextet_at
symbols_at table [] k h = absurd (omega arith)
symbols_at table (a ∷ []) zero h = refl
symbols_at table (a ∷ []) (suc zero) h =
    let last : a % 4 * 16 ≡ a % 4 * 16 + 0 = omega arith in
    ap (λ v. get_or table v 0) last
symbols_at table (a ∷ []) (suc (suc k)) h = absurd (omega arith)
symbols_at table (a ∷ b ∷ []) zero h = refl
symbols_at table (a ∷ b ∷ []) (suc zero) h = refl
symbols_at table (a ∷ b ∷ []) (suc (suc zero)) h =
    let last : b % 16 * 4 ≡ b % 16 * 4 + 0 = omega arith in
    ap (λ v. get_or table v 0) last
symbols_at table (a ∷ b ∷ []) (suc (suc (suc k))) h = absurd (omega arith)
symbols_at table (a ∷ b ∷ c ∷ rest) zero h = refl
symbols_at table (a ∷ b ∷ c ∷ rest) (suc zero) h = refl
symbols_at table (a ∷ b ∷ c ∷ rest) (suc (suc zero)) h = refl
symbols_at table (a ∷ b ∷ c ∷ rest) (suc (suc (suc zero))) h = refl
symbols_at table (a ∷ b ∷ c ∷ rest) (suc (suc (suc (suc k)))) h =
    symbols_at table rest k (omega arith) ∙ ap (λ v. get_or table v 0) (sym (sextet_at-next a b c rest k))

pub letters_at : (bytes : List ℕ) (k : ℕ) → k < unpadded_len (length bytes) → get_or (letters_of bytes) k 0 ≡ letter_of (sextet_at bytes k)
unfolding letters_of letter_of
letters_at bytes k h =
    rw append-nil (symbols_at (engine_symbols standard_no_pad) bytes k (omega (arith, length-encode_symbols (engine_symbols standard_no_pad) bytes)))

-- up to a place, the letters are those of these bytes
abbrev pub AgreeUpTo : List ℕ → List ℕ → ℕ → Type 0
AgreeUpTo letters bytes n = (k : ℕ) → k < n → get_or letters k 0 ≡ letter_of (sextet_at bytes k)

-- letters that agree at each place are those of the bytes
pub letters_from : (letters bytes : List ℕ) → length letters ≡ unpadded_len (length bytes) → AgreeUpTo letters bytes (length letters) → letters ≡ letters_of bytes
letters_from letters bytes size agree =
    same_number_lists letters (letters_of bytes) (size ∙ sym (length-letters bytes))
    (λ k h. agree k h ∙ sym (letters_at bytes k (omega (arith, size))))

pub agree_all : (letters bytes : List ℕ) → letters ≡ letters_of bytes → AgreeUpTo letters bytes (length letters)
agree_all letters bytes is k h = ap (λ (l : List ℕ). get_or l k 0) is ∙ letters_at bytes k (omega (arith, ap length is, length-letters bytes))

-- the six bits of a group, in three bytes
pub group_bits : (bytes : List ℕ) (q k r : ℕ) → k % 4 ≡ r → k / 4 * 3 ≡ q
    → sextet_at bytes k ≡ group_sextet r (slice_index bytes q) (slice_index bytes (q + 1)) (slice_index bytes (q + 2))
unfolding sextet_at
group_bits bytes q k r which first = rw (which, first) refl

-- each byte of a group is in two of its groups of six bits
pub first_byte : (bytes : List ℕ) (i a b : ℕ) → IsBytes bytes → i % 3 ≡ 0 → a ≡ sextet_at bytes (i / 3 * 4) → b ≡ sextet_at bytes (i / 3 * 4 + 1)
    → a * 4 + b / 16 ≡ slice_index bytes i
first_byte bytes i a b small which ha hb =
    let ea : a ≡ slice_index bytes i / 4 = ha ∙ group_bits bytes i (i / 3 * 4) 0 (omega arith) (omega arith) in
    let eb : b ≡ slice_index bytes i % 4 * 16 + slice_index bytes (i + 1) / 16 = hb ∙ group_bits bytes i (i / 3 * 4 + 1) 1 (omega arith) (omega arith) in
    let next : slice_index bytes (i + 1) < 256 = small (i + 1) in
    omega arith

pub second_byte : (bytes : List ℕ) (i b c : ℕ) → IsBytes bytes → i % 3 ≡ 1 → b ≡ sextet_at bytes (i / 3 * 4 + 1) → c ≡ sextet_at bytes (i / 3 * 4 + 2)
    → b % 16 * 16 + c / 4 ≡ slice_index bytes i
second_byte bytes i b c small which hb hc =
    let q : ℕ = i / 3 * 3 in
    let here : q + 1 ≡ i = omega arith in
    let eb : b ≡ slice_index bytes q % 4 * 16 + slice_index bytes (q + 1) / 16 = hb ∙ group_bits bytes q (i / 3 * 4 + 1) 1 (omega arith) (omega arith) in
    let ec : c ≡ slice_index bytes (q + 1) % 16 * 4 + slice_index bytes (q + 2) / 64 = hc ∙ group_bits bytes q (i / 3 * 4 + 2) 2 (omega arith) (omega arith) in
    let this : slice_index bytes (q + 1) < 256 = small (q + 1) in
    let next : slice_index bytes (q + 2) < 256 = small (q + 2) in
    let found : b % 16 * 16 + c / 4 ≡ slice_index bytes (q + 1) = omega arith in
    found ∙ ap (slice_index bytes) here

pub third_byte : (bytes : List ℕ) (i c d : ℕ) → IsBytes bytes → i % 3 ≡ 2 → c ≡ sextet_at bytes (i / 3 * 4 + 2) → d ≡ sextet_at bytes (i / 3 * 4 + 3)
    → c % 4 * 64 + d ≡ slice_index bytes i
third_byte bytes i c d small which hc hd =
    let q : ℕ = i / 3 * 3 in
    let here : q + 2 ≡ i = omega arith in
    let ec : c ≡ slice_index bytes (q + 1) % 16 * 4 + slice_index bytes (q + 2) / 64 = hc ∙ group_bits bytes q (i / 3 * 4 + 2) 2 (omega arith) (omega arith) in
    let ed : d ≡ slice_index bytes (q + 2) % 64 = hd ∙ group_bits bytes q (i / 3 * 4 + 3) 3 (omega arith) (omega arith) in
    let this : slice_index bytes (q + 2) < 256 = small (q + 2) in
    let found : c % 4 * 64 + d ≡ slice_index bytes (q + 2) = omega arith in
    found ∙ ap (slice_index bytes) here

group_small : (r a b c : ℕ) → a < 256 → b < 256 → c < 256 → group_sextet r a b c < 64
group_small zero a b c x y z = omega arith
group_small (suc zero) a b c x y z = omega arith
group_small (suc (suc zero)) a b c x y z = omega arith
group_small (suc (suc (suc r))) a b c x y z = omega arith

-- six bits at a place of the bytes
pub sextet_at-small : (bytes : List ℕ) (k : ℕ) → IsBytes bytes → sextet_at bytes k < 64
sextet_at-small bytes k small =
    let q : ℕ = k / 4 * 3 in
    let a : slice_index bytes q < 256 = small q in
    let b : slice_index bytes (q + 1) < 256 = small (q + 1) in
    let c : slice_index bytes (q + 2) < 256 = small (q + 2) in
    rw (group_bits bytes q k (k % 4) refl refl) (group_small (k % 4) _ _ _ a b c)

-- the letters that a byte is read from
pub letters_of_byte : (letters bytes : List ℕ) (i k : ℕ) → letters ≡ letters_of bytes → i < length bytes → k ≤ i / 3 * 4 + i % 3 + 1 → k < length letters
letters_of_byte letters bytes i k is inside near =
    let size : length letters ≡ (4 * length bytes + 2) / 3 = ap length is ∙ length-letters bytes in
    omega arith
