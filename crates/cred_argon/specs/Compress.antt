-- The compression function G of Argon2 (RFC 9106, sections 3.5 and 3.6), on lists of 128 words.
use Rattle.std.specs.Prelude.{ℕ, ◌+◌, ◌*◌, ◌/◌, ◌%◌, ◌^◌, List, [], ◌∷◌, map, bit_xor, slice_index}
use Rattle.std.specs.{List.range_with_len, Int.w64, Int.rotate_right}

-- the sum of two words and twice the product of their low halves, with the carry dropped
abbrev pub add_product : ℕ → ℕ → ℕ
add_product x y = (x + y + 2 * ((x % 2 ^ 32) * (y % 2 ^ 32))) % 2 ^ 64

-- four words mixed (GB of section 3.6)
unfoldable pub mixing : ℕ → ℕ → ℕ → ℕ → ℕ × ℕ × ℕ × ℕ
mixing a b c d =
    let a1 = add_product a b in
    let d1 = rotate_right w64 (bit_xor d a1) 32 in
    let c1 = add_product c d1 in
    let b1 = rotate_right w64 (bit_xor b c1) 24 in
    let a2 = add_product a1 b1 in
    let d2 = rotate_right w64 (bit_xor d1 a2) 16 in
    let c2 = add_product c1 d2 in
    let b2 = rotate_right w64 (bit_xor b1 c2) 63 in
    (a2, b2, c2, d2)

abbrev pub mixing_at : List ℕ → ℕ → ℕ → ℕ → ℕ → ℕ × ℕ × ℕ × ℕ
mixing_at v i j k l = mixing (slice_index v i) (slice_index v j) (slice_index v k) (slice_index v l)

-- sixteen words, seen as four rows of four, with each column mixed
unfoldable pub column_step : List ℕ → List ℕ
column_step v =
    let q0 = mixing_at v 0 4 8 12 in
    let q1 = mixing_at v 1 5 9 13 in
    let q2 = mixing_at v 2 6 10 14 in
    let q3 = mixing_at v 3 7 11 15 in
    q0.0 ∷ q1.0 ∷ q2.0 ∷ q3.0
    ∷ q0.1 ∷ q1.1 ∷ q2.1 ∷ q3.1
    ∷ q0.2 ∷ q1.2 ∷ q2.2 ∷ q3.2
    ∷ q0.3 ∷ q1.3 ∷ q2.3 ∷ q3.3 ∷ []

-- sixteen words, seen as four rows of four, with each diagonal mixed
unfoldable pub diagonal_step : List ℕ → List ℕ
diagonal_step v =
    let q0 = mixing_at v 0 5 10 15 in
    let q1 = mixing_at v 1 6 11 12 in
    let q2 = mixing_at v 2 7 8 13 in
    let q3 = mixing_at v 3 4 9 14 in
    q0.0 ∷ q1.0 ∷ q2.0 ∷ q3.0
    ∷ q3.1 ∷ q0.1 ∷ q1.1 ∷ q2.1
    ∷ q2.2 ∷ q3.2 ∷ q0.2 ∷ q1.2
    ∷ q1.3 ∷ q2.3 ∷ q3.3 ∷ q0.3 ∷ []

-- the permutation P on sixteen words
abbrev pub permutation : List ℕ → List ℕ
permutation v = diagonal_step (column_step v)

-- row i of a block: sixteen words that lie together
abbrev pub row : List ℕ → ℕ → List ℕ
row v i = map (λ k. slice_index v (16 * i + k)) (range_with_len 0 16)

-- column c of a block: two words of each row
abbrev pub column : List ℕ → ℕ → List ℕ
column v c = map (λ k. slice_index v (16 * (k / 2) + 2 * c + k % 2)) (range_with_len 0 16)

-- the block whose rows, or columns, are those of v under P
unfoldable pub rows : List ℕ → List ℕ
rows v = map (λ n. slice_index (permutation (row v (n / 16))) (n % 16)) (range_with_len 0 128)

unfoldable pub columns : List ℕ → List ℕ
columns v =
    map (λ n. slice_index (permutation (column v (n % 16 / 2))) (2 * (n / 16) + n % 2))
    (range_with_len 0 128)

-- two blocks under exclusive or, word by word
unfoldable pub xor_words : List ℕ → List ℕ → List ℕ
xor_words x y = map (λ n. bit_xor (slice_index x n) (slice_index y n)) (range_with_len 0 128)

-- G
unfoldable pub compress : List ℕ → List ℕ → List ℕ
compress x y = let r = xor_words x y in xor_words r (columns (rows r))
