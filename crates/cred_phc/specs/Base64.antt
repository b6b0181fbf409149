-- Bytes in base64 with no padding (RFC 4648, section 4): no text has `=`, and the bits after the
-- last byte are zero.
use Rattle.std.specs.Prelude.{ℕ, if◌then◌else◌, List, length, Option, Some, None, Result, Ok, Err}
use Rattle.base64.specs.{declared.decode.DecodeError.DecodeError, Engines.standard_no_pad, GeneralPurpose.encode_of, GeneralPurpose.decode_of}
use Rattle.cred_phc.specs.Ranges.{between}

-- the letters of the bytes
unfoldable pub base64 : List ℕ → List ℕ
base64 bytes = encode_of standard_no_pad bytes

-- the bytes that the letters stand for
unfoldable pub unbase64 : List ℕ → Result (List ℕ) DecodeError
unbase64 text = decode_of standard_no_pad text

-- bytes, if there are from low to high of them
abbrev pub bytes_within : ℕ → ℕ → Result (List ℕ) DecodeError → Option (List ℕ)
bytes_within low high (Err e) = None
bytes_within low high (Ok bytes) = if between low high (length bytes) then Some bytes else None

-- the bytes that the letters stand for, if there are from low to high of them
abbrev pub bytes_of : ℕ → ℕ → List ℕ → Option (List ℕ)
bytes_of low high text = bytes_within low high (unbase64 text)
