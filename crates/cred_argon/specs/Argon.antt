-- Argon2 as a whole (RFC 9106, section 3.2).
use Rattle.std.specs.Prelude.{ℕ, zero, suc, ◌-◌, ◌*◌, List, [], ◌++◌, length, replicate}
use Rattle.std.specs.Int.{w32, to_le_bytes}
use Rattle.cred_blake.specs.{Blake2b.blake, HashPrime.hash_prime, Words.bytes_of}
use Rattle.cred_argon.specs.{Parameters.Parameters, Parameters.segment_len, Numbers.kind_number, Numbers.version_number, Compress.xor_words, Places.place}
use Rattle.cred_argon.specs.Cells.{cell}

abbrev pub le32 : ℕ → List ℕ
le32 n = to_le_bytes w32 n

-- H0, the first hash, of the parameters, the password P, the salt S, the secret K and the
-- associated data X
unfoldable pub first_hash : Parameters → List ℕ → List ℕ → List ℕ → List ℕ → List ℕ
first_hash a pw salt secret assoc =
    blake 64 [] (le32 a.lanes ++ le32 a.tag_len ++ le32 a.memory ++ le32 a.passes
    ++ le32 (version_number a.version) ++ le32 (kind_number a.kind)
    ++ le32 (length pw) ++ pw ++ le32 (length salt) ++ salt
    ++ le32 (length secret) ++ secret ++ le32 (length assoc) ++ assoc)

-- the last blocks of the first n lanes under exclusive or
unfoldable pub last_blocks : Parameters → List ℕ → ℕ → List ℕ
last_blocks a h zero = replicate 128 0
last_blocks a h (suc n) =
    xor_words (last_blocks a h n) (cell a h (place (a.passes - 1) n (4 * segment_len a - 1)))

-- the tag
unfoldable pub argon : Parameters → List ℕ → List ℕ → List ℕ → List ℕ → List ℕ
argon a pw salt secret assoc =
    hash_prime a.tag_len (bytes_of (last_blocks a (first_hash a pw salt secret assoc) a.lanes))
