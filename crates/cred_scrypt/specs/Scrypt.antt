-- scrypt (RFC 7914, section 6) as a function on numbers and lists of bytes.
use Rattle.std.specs.Prelude.{ℕ, zero, suc, ◌*◌, ◌^◌, List, [], ◌∷◌, ◌++◌, take, drop, flat_map}
use Rattle.std.specs.Int.{w32, to_le_bytes, from_le_bytes}
use Rattle.cred_scrypt.specs.{Mixing.ro_mix, Pbkdf2.pbkdf2}

-- the first n words that bytes stand for, the low byte of a word first
unfoldable pub words_of : List ℕ → ℕ → List ℕ
words_of b zero = []
words_of b (suc n) = words_of b n ++ from_le_bytes w32 (take 4 (drop (4 * n) b)) ∷ []

-- the bytes of words, low byte first
unfoldable pub bytes_of : List ℕ → List ℕ
bytes_of words = flat_map (to_le_bytes w32) words

-- B[k]: piece k of 128r bytes, as words
unfoldable pub piece : ℕ → List ℕ → ℕ → List ℕ
piece r b k = words_of (take (128 * r) (drop (128 * r * k) b)) (32 * r)

-- the first k pieces, each after ROMix with N = 2 ^ ln, as bytes again
unfoldable pub mixed_pieces : ℕ → ℕ → List ℕ → ℕ → List ℕ
mixed_pieces ln r b zero = []
mixed_pieces ln r b (suc k) = mixed_pieces ln r b k ++ bytes_of (ro_mix r (2 ^ ln) (piece r b k))

-- scrypt with N = 2 ^ ln, block size r, parallelization p and a key of len bytes
unfoldable pub scrypt : ℕ → ℕ → ℕ → ℕ → List ℕ → List ℕ → List ℕ
scrypt ln r p len pw salt = pbkdf2 pw (mixed_pieces ln r (pbkdf2 pw salt 1 (128 * r * p)) p) 1 len
