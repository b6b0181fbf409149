-- Exclusive or of two lists.
use Rattle.std.specs.{Prelude.ℕ, Prelude.List, Prelude.bit_xor, Simd.Lanes.zip2}

-- the XOR of two lists of bytes, or of two lists of words, element by element
abbrev pub xor_all : List ℕ → List ℕ → List ℕ
xor_all xs ys = zip2 bit_xor xs ys
