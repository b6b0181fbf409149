-- A block of sixteen words as the code holds it for mixing: in four vectors, each of a diagonal of
-- the square of four rows of four words.
use Rattle.std.specs.Prelude.{ℕ, List, [], ◌∷◌, slice_index, slice_index_or}

-- lane j of vector k
abbrev pub lane_at : List (List ℕ) → ℕ → ℕ → ℕ
lane_at x k j = slice_index (slice_index_or x k []) j

-- the block's words, in the standard's order. The vectors begin in the first column, one below
-- another, and each goes down to the right.
abbrev pub block_of : List (List ℕ) → List ℕ
block_of x =
    lane_at x 0 0 ∷ lane_at x 3 1 ∷ lane_at x 2 2 ∷ lane_at x 1 3
    ∷ lane_at x 1 0 ∷ lane_at x 0 1 ∷ lane_at x 3 2 ∷ lane_at x 2 3
    ∷ lane_at x 2 0 ∷ lane_at x 1 1 ∷ lane_at x 0 2 ∷ lane_at x 3 3
    ∷ lane_at x 3 0 ∷ lane_at x 2 1 ∷ lane_at x 1 2 ∷ lane_at x 0 3 ∷ []

-- the square of a block's words with rows and columns exchanged
unfoldable pub transposed : List ℕ → List ℕ
transposed x =
    slice_index x 0 ∷ slice_index x 4 ∷ slice_index x 8 ∷ slice_index x 12
    ∷ slice_index x 1 ∷ slice_index x 5 ∷ slice_index x 9 ∷ slice_index x 13
    ∷ slice_index x 2 ∷ slice_index x 6 ∷ slice_index x 10 ∷ slice_index x 14
    ∷ slice_index x 3 ∷ slice_index x 7 ∷ slice_index x 11 ∷ slice_index x 15 ∷ []
