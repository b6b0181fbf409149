-- From vectors back to the block: what the rows and columns in vectors say of each word.
use Rattle.std.proofs.Common.{◌≡◌, ℕ, ◌<◌, ◌≤◌, ◌+◌, ◌*◌, ◌/◌, ◌%◌, List, [], slice_index, slice_index_or, nat_lt, if◌then◌else◌, length, map, arith, refl, sym, ap, ap₂, ◌∙◌, ◌-◌, ◌⊎◌, inl, inr, bit_xor}
use Rattle.std.proofs.{lemmas.Bool.cases_lt, lemmas.Bool.lt-ltb, lemmas.Bool.le-ltb, lemmas.List.FromFn.fill_by_all, lemmas.List.FromFn.get_or-map-range_with_len}
use Rattle.std.specs.List.{range_with_len}
use Rattle.cred_argon.specs.Compress.{permutation, row, column, rows, columns, xor_words, compress}
use Rattle.cred_argon.specs.Layout.{slot_at, list_of, column_of_rows, column_of_halves, half_word, IsRows, IsHalf}
use Rattle.cred_argon.proofs.LayoutLemmas.{below_sixteen}

xor_words_at : (x y : List ℕ) (n : ℕ) → n < 128 → slice_index (xor_words x y) n ≡ bit_xor (slice_index x n) (slice_index y n)
unfolding xor_words
xor_words_at x y n h = get_or-map-range_with_len (λ (k : ℕ). bit_xor (slice_index x k) (slice_index y k)) 0 128 n n 0 h (omega arith)

rows_at : (v : List ℕ) (n : ℕ) → n < 128 → slice_index (rows v) n ≡ slice_index (permutation (row v (n / 16))) (n % 16)
unfolding rows
rows_at v n h = get_or-map-range_with_len (λ (k : ℕ). slice_index (permutation (row v (k / 16))) (k % 16)) 0 128 n n 0 h (omega arith)

columns_at : (v : List ℕ) (n : ℕ) → n < 128
    → slice_index (columns v) n ≡ slice_index (permutation (column v (n % 16 / 2))) (2 * (n / 16) + n % 2)
unfolding columns
columns_at v n h =
    get_or-map-range_with_len (λ (k : ℕ). slice_index (permutation (column v (k % 16 / 2))) (2 * (k / 16) + k % 2)) 0 128 n n 0 h (omega arith)

list_of_at : (j : ℕ) (x : List (List ℕ)) (k : ℕ) → k < 16
    → slice_index (list_of j x) k ≡ slot_at x (4 * (j / 2) + k / 4) (4 * (j % 2) + k % 4)
list_of_at j x = below_sixteen _ refl refl refl refl refl refl refl refl refl refl refl refl refl refl refl refl

column_of_rows_at : (j : ℕ) (x : List (List ℕ)) (k : ℕ) → k < 16
    → slice_index (column_of_rows j x) k ≡ slot_at x (4 * (j / 2) + k / 4) (2 * (j % 2) + (4 * (k % 4 / 2) + k % 2))
column_of_rows_at j x = below_sixteen _ refl refl refl refl refl refl refl refl refl refl refl refl refl refl refl refl

column_of_halves_at : (j : ℕ) (x : List (List ℕ)) (k : ℕ) → k < 16
    → slice_index (column_of_halves j x) k ≡ slot_at x (k / 2) (2 * j + k % 2)
column_of_halves_at j x = below_sixteen _ refl refl refl refl refl refl refl refl refl refl refl refl refl refl refl refl

-- the words of four rows under P, from those of the rows of the XOR of two blocks
pub rows_words : (a b : List ℕ) (x z : List (List ℕ)) (first : ℕ) → first + 4 ≤ 8
    → ((m : ℕ) → m < 8 → (e : ℕ) → e < 8
    → slot_at x m e
    ≡ bit_xor (slice_index a (16 * first + (32 * (m / 4) + 8 * (m % 4 / 2)) + 4 * (m % 2) + 16 * (e / 4) + e % 4))
    (slice_index b (16 * first + (32 * (m / 4) + 8 * (m % 4 / 2)) + 4 * (m % 2) + 16 * (e / 4) + e % 4)))
    → ((j : ℕ) → j < 4 → list_of j z ≡ permutation (list_of j x))
    → IsRows (rows (xor_words a b)) first z
rows_words a b x z first four held by_row m hm e he =
    let r = xor_words a b in
    let j = 2 * (m / 4) + e / 4 in
    let k = 4 * (m % 4) + e % 4 in
    let n = 16 * (first + 2 * (m / 4) + e / 4) + 4 * (m % 4) + e % 4 in
    let below : j < 4 = omega arith in
    let row_is : list_of j x ≡ row r (first + j) =
    fill_by_all (λ (i : ℕ). slice_index r (16 * (first + j) + i)) (list_of j x) 16 0 refl (λ i h.
    let q = 4 * (j / 2) + i / 4 in
    let s = 4 * (j % 2) + i % 4 in
    list_of_at j x i h ∙ held q (omega arith) s (omega arith)
    ∙ sym (xor_words_at a b (16 * first + (32 * (q / 4) + 8 * (q % 4 / 2)) + 4 * (q % 2) + 16 * (s / 4) + s % 4) (omega arith))
    ∙ ap (λ (t : ℕ). slice_index r t) (omega arith)) in
    let at_m : 4 * (j / 2) + k / 4 ≡ m = omega arith in
    let at_e : 4 * (j % 2) + k % 4 ≡ e = omega arith in
    let at_row : n / 16 ≡ first + j = omega arith in
    let at_place : n % 16 ≡ k = omega arith in
    ap₂ (λ (k i : ℕ). slot_at z k i) (sym at_m) (sym at_e)
    ∙ sym (list_of_at j z k (omega arith))
    ∙ ap (λ (v : List ℕ). slice_index v k) (by_row j below ∙ ap permutation row_is)
    ∙ rw (rows_at r n (omega arith), at_row, at_place) refl

-- the vectors for half h of each row, of a block whose rows before and from row 4 on are these
abbrev pub half_of : List (List ℕ) → List (List ℕ) → ℕ → List (List ℕ)
half_of top low h =
    map (λ m. slice_index_or (if nat_lt (m % 4) 2 then top else low) (4 * (m % 2) + (2 * h + m / 4)) []) (range_with_len 0 8)

pub half_at : (v : List ℕ) (top low : List (List ℕ)) (h : ℕ) → h < 2 → IsRows v 0 top → IsRows v 4 low
    → (m : ℕ) → m < 8 → (e : ℕ) → e < 8
    → slot_at (half_of top low h) m e ≡ slice_index v (16 * (2 * (m % 4) + e / 4) + 4 * (2 * h + m / 4) + e % 4)
half_at v top low h two is_top is_low m hm e he =
    let k = 4 * (m % 2) + (2 * h + m / 4) in
    ap (λ (x : List ℕ). slice_index x e)
    (get_or-map-range_with_len (λ m. slice_index_or (if nat_lt (m % 4) 2 then top else low) (4 * (m % 2) + (2 * h + m / 4)) []) 0 8 m m [] hm (omega arith))
    ∙ elim (cases_lt (m % 4) 2) [
      | inl front ↦ rw (lt-ltb (m % 4) 2 front) (is_top k (omega arith) e he ∙ ap (λ (t : ℕ). slice_index v t) (omega arith))
      | inr back ↦ rw (le-ltb (m % 4) 2 back) (is_low k (omega arith) e he ∙ ap (λ (t : ℕ). slice_index v t) (omega arith))
    ]

-- the words of four columns under P, from those of the columns: half h of each row
pub columns_words : (v : List ℕ) (x q : List (List ℕ)) (h : ℕ) → h < 2
    → ((m : ℕ) → m < 8 → (e : ℕ) → e < 8
    → slot_at x m e ≡ slice_index v (16 * (2 * (m % 4) + e / 4) + 4 * (2 * h + m / 4) + e % 4))
    → ((j : ℕ) → j < 4 → column_of_halves j q ≡ permutation (column_of_rows j x))
    → (i : ℕ) → i < 8 → (e : ℕ) → e < 8 → slot_at q i e ≡ slice_index (columns v) (16 * i + 8 * h + e)
columns_words v x q h two held by_column i hi e he =
    let j = e / 2 in
    let k = 2 * i + e % 2 in
    let c = 4 * h + j in
    let n = 16 * i + 8 * h + e in
    let below : j < 4 = omega arith in
    let column_is : column_of_rows j x ≡ column v c =
    fill_by_all (λ (t : ℕ). slice_index v (16 * (t / 2) + 2 * c + t % 2)) (column_of_rows j x) 16 0 refl (λ t ht.
    column_of_rows_at j x t ht ∙ held (4 * (j / 2) + t / 4) (omega arith) (2 * (j % 2) + (4 * (t % 4 / 2) + t % 2)) (omega arith)
    ∙ ap (λ (w : ℕ). slice_index v w) (omega arith)) in
    let at_i : k / 2 ≡ i = omega arith in
    let at_e : 2 * j + k % 2 ≡ e = omega arith in
    let at_column : n % 16 / 2 ≡ c = omega arith in
    let at_place : 2 * (n / 16) + n % 2 ≡ k = omega arith in
    ap₂ (λ (a b : ℕ). slot_at q a b) (sym at_i) (sym at_e)
    ∙ sym (column_of_halves_at j q k (omega arith))
    ∙ ap (λ (u : List ℕ). slice_index u k) (by_column j below ∙ ap permutation column_is)
    ∙ rw (columns_at v n (omega arith), at_column, at_place) refl

-- a word of G, from those of the columns
pub half_words : (x y : List ℕ) (q : List (List ℕ)) (h i e : ℕ) → h < 2 → i < 8 → e < 8
    → slot_at q i e ≡ slice_index (columns (rows (xor_words x y))) (16 * i + 8 * h + e)
    → half_word x y q (8 * h) i e ≡ slice_index (compress x y) (16 * i + 8 * h + e)
unfolding compress
half_words x y q h i e hh hi he word =
    let r = xor_words x y in
    let n = 16 * i + 8 * h + e in
    ap₂ bit_xor (sym (xor_words_at x y n (omega arith))) word ∙ sym (xor_words_at r (columns (rows r)) n (omega arith))

-- a block whose words are those of G, or those of another block with G's added, is what G makes of
-- it
pub compress_is : (x y out : List ℕ) → length out ≡ 128 → ((n : ℕ) → n < 128 → slice_index out n ≡ slice_index (compress x y) n) → out ≡ compress x y
unfolding compress xor_words
compress_is x y out len same =
    let r = map (λ n. bit_xor (slice_index x n) (slice_index y n)) (range_with_len 0 128) in
    fill_by_all (λ n. bit_xor (slice_index r n) (slice_index (columns (rows r)) n)) out 128 0 len
    (λ n h. same n h ∙ get_or-map-range_with_len (λ n. bit_xor (slice_index r n) (slice_index (columns (rows r)) n)) 0 128 n n 0 h (omega arith))

pub xor_words_is : (x y out : List ℕ) → length out ≡ 128 → ((n : ℕ) → n < 128 → slice_index out n ≡ bit_xor (slice_index x n) (slice_index y n)) → out ≡ xor_words x y
unfolding xor_words
xor_words_is x y out len same = fill_by_all (λ n. bit_xor (slice_index x n) (slice_index y n)) out 128 0 len same

-- both halves of each row, one put after the other
pub halves_put : (put : ℕ → ℕ → ℕ) (x y old mid out : List ℕ) (left right : List (List ℕ))
    → ((i : ℕ) → i < 8 → (e : ℕ) → e < 8 → slice_index mid (16 * i + 0 + e) ≡ put (slice_index old (16 * i + 0 + e)) (half_word x y left 0 i e))
    → ((i : ℕ) → i < 8 → (r : ℕ) → r < 16 → (r < 0) ⊎ (0 + 8 ≤ r) → slice_index mid (16 * i + r) ≡ slice_index old (16 * i + r))
    → ((i : ℕ) → i < 8 → (e : ℕ) → e < 8 → slice_index out (16 * i + 8 + e) ≡ put (slice_index mid (16 * i + 8 + e)) (half_word x y right 8 i e))
    → ((i : ℕ) → i < 8 → (r : ℕ) → r < 16 → (r < 8) ⊎ (8 + 8 ≤ r) → slice_index out (16 * i + r) ≡ slice_index mid (16 * i + r))
    → IsHalf (columns (rows (xor_words x y))) 0 left
    → IsHalf (columns (rows (xor_words x y))) 8 right
    → (n : ℕ) → n < 128 → slice_index out n ≡ put (slice_index old n) (slice_index (compress x y) n)
halves_put put x y old mid out left right put_left keep_right put_right keep_left left_is right_is n h =
    elim (cases_lt (n % 16) 8) [
      | inl low ↦
          let i = n / 16 in
          let e = n % 16 in
          let place : 16 * i + e ≡ n = omega arith in
          let from_left : 16 * i + 0 + e ≡ n = omega arith in
          let word_at : 16 * i + 8 * 0 + e ≡ n = omega arith in
          let same = rw place at (keep_left i (omega arith) e (omega arith) (inl low)) in
          let word_put = rw from_left at (put_left i (omega arith) e low) in
          let word = rw word_at at (half_words x y left 0 i e (omega arith) (omega arith) low (left_is i (omega arith) e low)) in
          same ∙ word_put ∙ ap (put (slice_index old n)) word
      | inr high ↦
          let i = n / 16 in
          let e = n % 16 - 8 in
          let place : 16 * i + n % 16 ≡ n = omega arith in
          let from_right : 16 * i + 8 + e ≡ n = omega (arith, high) in
          let word_at : 16 * i + 8 * 1 + e ≡ n = omega (arith, high) in
          let same = rw place at (keep_right i (omega arith) (n % 16) (omega arith) (inr high)) in
          let word_put = rw from_right at (put_right i (omega arith) e (omega arith)) in
          let word = rw word_at at (half_words x y right 1 i e (omega arith) (omega arith) (omega arith) (right_is i (omega arith) e (omega arith))) in
          word_put ∙ ap₂ (λ (o w : ℕ). put o w) same word
    ]
