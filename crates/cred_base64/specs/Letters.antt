-- The letters of base64 (RFC 4648, section 4), with no padding: there is no `=`, and the bits
-- after the last byte are zero.
use Rattle.std.specs.Prelude.{ℕ, List, slice_index, Option}
use Rattle.base64.specs.{Engines.standard_no_pad, GeneralPurpose.decoded_of, GeneralPurpose.encode_of, GeneralPurpose.engine_symbols}

-- the letter of six bits (table 1)
unfoldable pub letter_of : ℕ → ℕ
letter_of sextet = slice_index (engine_symbols standard_no_pad) sextet

-- the letters of the bytes
unfoldable pub letters_of : List ℕ → List ℕ
letters_of bytes = encode_of standard_no_pad bytes

-- the bytes that have these letters, if any have
unfoldable pub bytes_with : List ℕ → Option (List ℕ)
bytes_with letters = decoded_of standard_no_pad letters
