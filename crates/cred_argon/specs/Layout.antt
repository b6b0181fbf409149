-- Sixteen-word lists that lie side by side in vectors of eight words: how the code holds a block's
-- rows and columns.
use Rattle.std.specs.Prelude.{◌≡◌, ℕ, ◌+◌, ◌*◌, ◌/◌, ◌%◌, ◌<◌, List, [], ◌∷◌, bit_xor, slice_index, slice_index_or}

-- slot j of vector k
abbrev pub slot_at : List (List ℕ) → ℕ → ℕ → ℕ
slot_at x k j = slice_index (slice_index_or x k []) j

-- list j of four: two lie side by side in four vectors, each as four words of each
abbrev pub list_of : ℕ → List (List ℕ) → List ℕ
list_of j x =
    slot_at x (4 * (j / 2) + 0) (4 * (j % 2) + 0) ∷ slot_at x (4 * (j / 2) + 0) (4 * (j % 2) + 1)
    ∷ slot_at x (4 * (j / 2) + 0) (4 * (j % 2) + 2) ∷ slot_at x (4 * (j / 2) + 0) (4 * (j % 2) + 3)
    ∷ slot_at x (4 * (j / 2) + 1) (4 * (j % 2) + 0) ∷ slot_at x (4 * (j / 2) + 1) (4 * (j % 2) + 1)
    ∷ slot_at x (4 * (j / 2) + 1) (4 * (j % 2) + 2) ∷ slot_at x (4 * (j / 2) + 1) (4 * (j % 2) + 3)
    ∷ slot_at x (4 * (j / 2) + 2) (4 * (j % 2) + 0) ∷ slot_at x (4 * (j / 2) + 2) (4 * (j % 2) + 1)
    ∷ slot_at x (4 * (j / 2) + 2) (4 * (j % 2) + 2) ∷ slot_at x (4 * (j / 2) + 2) (4 * (j % 2) + 3)
    ∷ slot_at x (4 * (j / 2) + 3) (4 * (j % 2) + 0) ∷ slot_at x (4 * (j / 2) + 3) (4 * (j % 2) + 1)
    ∷ slot_at x (4 * (j / 2) + 3) (4 * (j % 2) + 2) ∷ slot_at x (4 * (j / 2) + 3) (4 * (j % 2) + 3)
    ∷ []

-- column j of four columns, of which each vector has four words of two rows
abbrev pub column_of_rows : ℕ → List (List ℕ) → List ℕ
column_of_rows j x =
    slot_at x (4 * (j / 2) + 0) (2 * (j % 2) + 0) ∷ slot_at x (4 * (j / 2) + 0) (2 * (j % 2) + 1)
    ∷ slot_at x (4 * (j / 2) + 0) (2 * (j % 2) + 4) ∷ slot_at x (4 * (j / 2) + 0) (2 * (j % 2) + 5)
    ∷ slot_at x (4 * (j / 2) + 1) (2 * (j % 2) + 0) ∷ slot_at x (4 * (j / 2) + 1) (2 * (j % 2) + 1)
    ∷ slot_at x (4 * (j / 2) + 1) (2 * (j % 2) + 4) ∷ slot_at x (4 * (j / 2) + 1) (2 * (j % 2) + 5)
    ∷ slot_at x (4 * (j / 2) + 2) (2 * (j % 2) + 0) ∷ slot_at x (4 * (j / 2) + 2) (2 * (j % 2) + 1)
    ∷ slot_at x (4 * (j / 2) + 2) (2 * (j % 2) + 4) ∷ slot_at x (4 * (j / 2) + 2) (2 * (j % 2) + 5)
    ∷ slot_at x (4 * (j / 2) + 3) (2 * (j % 2) + 0) ∷ slot_at x (4 * (j / 2) + 3) (2 * (j % 2) + 1)
    ∷ slot_at x (4 * (j / 2) + 3) (2 * (j % 2) + 4) ∷ slot_at x (4 * (j / 2) + 3) (2 * (j % 2) + 5)
    ∷ []

-- column j of the half of each row
abbrev pub column_of_halves : ℕ → List (List ℕ) → List ℕ
column_of_halves j x =
    slot_at x 0 (2 * j + 0) ∷ slot_at x 0 (2 * j + 1)
    ∷ slot_at x 1 (2 * j + 0) ∷ slot_at x 1 (2 * j + 1)
    ∷ slot_at x 2 (2 * j + 0) ∷ slot_at x 2 (2 * j + 1)
    ∷ slot_at x 3 (2 * j + 0) ∷ slot_at x 3 (2 * j + 1)
    ∷ slot_at x 4 (2 * j + 0) ∷ slot_at x 4 (2 * j + 1)
    ∷ slot_at x 5 (2 * j + 0) ∷ slot_at x 5 (2 * j + 1)
    ∷ slot_at x 6 (2 * j + 0) ∷ slot_at x 6 (2 * j + 1)
    ∷ slot_at x 7 (2 * j + 0) ∷ slot_at x 7 (2 * j + 1) ∷ []

-- eight vectors that hold four rows of a block, two side by side and two more
abbrev pub IsRows : List ℕ → ℕ → List (List ℕ) → Type 0
IsRows v first x =
    (m : ℕ) → m < 8 → (e : ℕ) → e < 8
    → slot_at x m e ≡ slice_index v (16 * (first + 2 * (m / 4) + e / 4) + 4 * (m % 4) + e % 4)

-- eight vectors that hold the half of each row of a block from word `at` on
abbrev pub IsHalf : List ℕ → ℕ → List (List ℕ) → Type 0
IsHalf v at half =
    (i : ℕ) → i < 8 → (e : ℕ) → e < 8 → slot_at half i e ≡ slice_index v (16 * i + at + e)

-- a word of the XOR of three blocks, the third in the vectors of a half
abbrev pub half_word : List ℕ → List ℕ → List (List ℕ) → ℕ → ℕ → ℕ → ℕ
half_word x y half at i e =
    bit_xor (bit_xor (slice_index x (16 * i + at + e)) (slice_index y (16 * i + at + e)))
    (slot_at half i e)
