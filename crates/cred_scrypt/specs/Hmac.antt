-- HMAC-SHA-256 (RFC 2104) as a function on lists of bytes. SHA-256's block has 64 bytes.
use Rattle.std.specs.Prelude.{ℕ, ◌-◌, List, ◌++◌, length, replicate, if◌then◌else◌, nat_lt}
use Rattle.sha2.specs.Sha256.{sha256}
use Rattle.cred_scrypt.specs.Xor.{xor_all}

-- the key, or its digest if it is longer than a block (section 2)
abbrev pub short_key : List ℕ → List ℕ
short_key key = if nat_lt 64 (length key) then sha256 key else key

-- that, with zeros after it up to a block
unfoldable pub key_block : List ℕ → List ℕ
key_block key = short_key key ++ replicate (64 - length (short_key key)) 0

-- a block under exclusive or with one byte, repeated
abbrev pub xor_with_byte : ℕ → List ℕ → List ℕ
xor_with_byte byte block = xor_all block (replicate 64 byte)

-- the key under the inner and the outer padding
abbrev pub inner_pad : List ℕ → List ℕ
inner_pad key = xor_with_byte 0x36 (key_block key)

abbrev pub outer_pad : List ℕ → List ℕ
outer_pad key = xor_with_byte 0x5c (key_block key)

-- HMAC-SHA-256
unfoldable pub hmac : List ℕ → List ℕ → List ℕ
hmac key message = sha256 (outer_pad key ++ sha256 (inner_pad key ++ message))
