-- BlockMix and ROMix (RFC 7914, sections 4 and 5) as functions on lists of words. A block has 64
-- bytes, which are sixteen little-endian words. There is no table here: row i of the RFC's V is i
-- BlockMixes of the input.
use Rattle.std.specs.Prelude.{ℕ, zero, suc, ◌+◌, ◌-◌, ◌*◌, ◌%◌, ◌^◌, List, [], ◌∷◌, ◌++◌, take, drop}
use Rattle.cred_scrypt.specs.{Salsa.salsa20_8, Xor.xor_all}

-- block i of a list of words
abbrev pub block_at : List ℕ → ℕ → List ℕ
block_at b i = take 16 (drop (16 * i) b)

-- X of BlockMix after the first i blocks of b: the last block, and then Y[0], Y[1], ..
unfoldable pub chain : ℕ → List ℕ → ℕ → List ℕ
chain r b zero = block_at b (2 * r - 1)
chain r b (suc i) = salsa20_8 (xor_all (chain r b i) (block_at b i))

-- Y[s], Y[s + 2], .., n of them
unfoldable pub every_second : ℕ → List ℕ → ℕ → ℕ → List ℕ
every_second r b s zero = []
every_second r b s (suc n) = every_second r b s n ++ chain r b (2 * n + s + 1)

-- BlockMix of 2r blocks: Y[0], Y[2], .. and then Y[1], Y[3], ..
unfoldable pub block_mix : ℕ → List ℕ → List ℕ
block_mix r b = every_second r b 0 r ++ every_second r b 1 r

-- n BlockMixes of b
unfoldable pub mixes : ℕ → List ℕ → ℕ → List ℕ
mixes r b zero = b
mixes r b (suc n) = block_mix r (mixes r b n)

-- the number that words stand for, the low word first
unfoldable pub little_endian : List ℕ → ℕ
little_endian [] = 0
little_endian (w ∷ ws) = w + 2 ^ 32 * little_endian ws

-- Integerify: the last block as one little-endian number
unfoldable pub integerify : ℕ → List ℕ → ℕ
integerify r x = little_endian (block_at x (2 * r - 1))

-- X after k steps of ROMix's second loop, with n the RFC's N
unfoldable pub second_loop : ℕ → ℕ → List ℕ → ℕ → List ℕ
second_loop r n b zero = mixes r b n
second_loop r n b (suc k) =
    let x = second_loop r n b k in
    block_mix r (xor_all x (mixes r b (integerify r x % n)))

-- ROMix with block size r and cost n
unfoldable pub ro_mix : ℕ → ℕ → List ℕ → List ℕ
ro_mix r n b = second_loop r n b n
