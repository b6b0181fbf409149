-- Base64 by the strict engine with no padding: a text decodes to bytes exactly if it is their
-- encoding.
use Rattle.std.proofs.Common.{◌≡◌, ◌∙◌, ℕ, zero, suc, ◌+◌, ◌*◌, ◌/◌, ◌%◌, ◌<◌, ◌≤◌, ◌==◌, not, true, if◌then◌else◌, List, [], ◌∷◌, length, get_or, Some, None, Result, Ok, Err, arith, refl, ap, append-nil}
use Rattle.std.proofs.{lemmas.Bool.Decides.nat_tests, lemmas.Option.cond_some}
use Rattle.base64.specs.{declared.decode.DecodeError.DecodeError, Engines.standard_no_pad}
use Rattle.base64.specs.{GeneralPurpose.IsBytes, GeneralPurpose.decode_of, GeneralPurpose.decoded_of, GeneralPurpose.engine_symbols, Rfc4648.encode_symbols}
use Rattle.base64.proofs.{EngineFacts.decode_of_strict, EngineFacts.decode_of-encode_of, RoundTrip.length-encode_symbols}
use Rattle.std.specs.{Cmp.first_so, Cmp.second_so, Result.result_ok}
use Rattle.cred_base64.specs.Letters.{bytes_with}
use Rattle.cred_phc.proofs.PieceLaws.{lacks}
use Rattle.cred_phc.specs.{Ranges.between, Base64.base64, Base64.unbase64, Base64.bytes_within, Base64.bytes_of}

pub length-base64 : (bytes : List ℕ) → length (base64 bytes) ≡ (4 * length bytes + 2) / 3
unfolding base64
length-base64 bytes = rw append-nil (length-encode_symbols (engine_symbols standard_no_pad) bytes)

-- a text that decodes is an encoding
pub unbase64_is : (text bytes : List ℕ) → IsBytes text → unbase64 text ≡ Ok bytes → text ≡ base64 bytes
unfolding base64 unbase64
unbase64_is text bytes h e = decode_of_strict standard_no_pad text bytes (refl, refl) h e

-- an encoding decodes
pub unbase64-base64 : (bytes : List ℕ) → IsBytes bytes → unbase64 (base64 bytes) ≡ Ok bytes
unfolding base64 unbase64
unbase64-base64 bytes h = decode_of-encode_of standard_no_pad bytes refl h

sized_long : (low high : ℕ) (text : List ℕ) (r : Result (List ℕ) DecodeError) → high ≤ 256 → 342 < length text → ((b : List ℕ) → r ≡ Ok b → length text ≡ (4 * length b + 2) / 3) → None ≡ bytes_within low high r
sized_long low high text (Err e) fits long size = refl
sized_long low high text (Ok b) fits long size = let n = size b refl in grind (arith, nat_tests)

-- 256 bytes have 342 letters
pub too_long : (low high : ℕ) (text : List ℕ) → high ≤ 256 → IsBytes text → 342 < length text → None ≡ bytes_of low high text
too_long low high text fits is_bytes long =
    sized_long low high text (unbase64 text) fits long (λ b e. ap length (unbase64_is text b is_bytes e) ∙ length-base64 b)

symbol_other : (byte : ℕ) (table : List ℕ) (i : ℕ) → lacks (suc byte) table ≡ true → not (get_or table i 0 == suc byte) ≡ true
symbol_other byte [] i h = grind (arith, nat_tests)
symbol_other byte (s ∷ table) zero h = first_so _ _ h
symbol_other byte (s ∷ table) (suc i) h = symbol_other byte table i (second_so _ _ h)

symbols_lack : (byte : ℕ) (table bytes : List ℕ) → ((i : ℕ) → not (get_or table i 0 == byte) ≡ true) → lacks byte (encode_symbols table bytes) ≡ true
unfolding encode_symbols
symbols_lack byte table [] h = refl
symbols_lack byte table (a ∷ []) h = rw (h (a / 4), h (a % 4 * 16)) refl
symbols_lack byte table (a ∷ b ∷ []) h = rw (h (a / 4), h (a % 4 * 16 + b / 16), h (b % 16 * 4)) refl
symbols_lack byte table (a ∷ b ∷ c ∷ more) h =
    rw (h (a / 4), h (a % 4 * 16 + b / 16), h (b % 16 * 4 + c / 64), h (c % 64)) (symbols_lack byte table more h)

-- no letter is `$`
pub lacks-base64 : (bytes : List ℕ) → lacks 36 (base64 bytes) ≡ true
unfolding base64
lacks-base64 bytes =
    rw append-nil (symbols_lack 36 (engine_symbols standard_no_pad) bytes (λ i. symbol_other 35 (engine_symbols standard_no_pad) i refl))

found_sized : (low high : ℕ) (r : Result (List ℕ) DecodeError) (bytes : List ℕ) → bytes_within low high r ≡ Some bytes → (r ≡ Ok bytes) × (between low high (length bytes) ≡ true)
found_sized low high (Err e) bytes h = cc h
found_sized low high (Ok b) bytes h = let is = cond_some _ _ _ h in (ap Ok is.1, rw is.1 at is.0)

-- bytes that letters stand for are written by these letters
pub bytes_of_is : (low high : ℕ) (text bytes : List ℕ) → IsBytes text → bytes_of low high text ≡ Some bytes → text ≡ base64 bytes
bytes_of_is low high text bytes is_bytes h = unbase64_is text bytes is_bytes (found_sized low high (unbase64 text) bytes h).0

-- letters that write bytes stand for these bytes
pub bytes_of-base64 : (low high : ℕ) (bytes : List ℕ) → IsBytes bytes → between low high (length bytes) ≡ true → bytes_of low high (base64 bytes) ≡ Some bytes
bytes_of-base64 low high bytes is_bytes fits = rw (unbase64-base64 bytes is_bytes, fits) refl

within_found : (low high : ℕ) (r : Result (List ℕ) DecodeError) (bytes : List ℕ) → result_ok r ≡ Some bytes
    → (if between low high (length bytes) then Some bytes else None) ≡ bytes_within low high r
within_found low high (Ok b) bytes h = let same : b ≡ bytes = cc h in rw same refl
within_found low high (Err e) bytes h = cc h

within_none : (low high : ℕ) (r : Result (List ℕ) DecodeError) → result_ok r ≡ None → None ≡ bytes_within low high r
within_none low high (Ok b) h = cc h
within_none low high (Err e) h = refl

-- the bytes with these letters, by either crate's word for it
pub bytes_read : (low high : ℕ) (text bytes found : List ℕ) → bytes_with text ≡ Some bytes → found ≡ bytes
    → (if between low high (length found) then Some found else None) ≡ bytes_of low high text
unfolding bytes_with decoded_of unbase64
bytes_read low high text bytes found h same = rw same (within_found low high (decode_of standard_no_pad text) bytes h)

pub no_bytes_read : (low high : ℕ) (text : List ℕ) → bytes_with text ≡ None → None ≡ bytes_of low high text
unfolding bytes_with decoded_of unbase64
no_bytes_read low high text h = within_none low high (decode_of standard_no_pad text) h
