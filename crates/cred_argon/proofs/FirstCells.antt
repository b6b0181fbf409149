-- Words read from bytes, and the first two cells of a lane.
use Rattle.std.proofs.Common.{◌≡◌, ℕ, zero, suc, ◌<◌, ◌≤◌, ◌+◌, ◌*◌, List, [], ◌∷◌, ◌++◌, true, map, refl, ap, sym, ◌∙◌, arith}
use Rattle.std.proofs.{lemmas.List.FromFn.map-range_with_len_more, lemmas.Bool.Decides.nat_tests}
use Rattle.std.specs.List.{range_with_len}
use Rattle.cred_blake.specs.Words.{word_at, words_of}
use Rattle.cred_argon.specs.{Parameters.Parameters, Parameters.segment_len, Places.place, Cells.first_cell, Cells.is_first, Cells.cell_by, Cells.cell}
use Rattle.cred_argon.proofs.CellLaw.{cell_is}

pub words_of_is : (b : List ℕ) (n : ℕ) → words_of b n ≡ map (λ k. word_at b (8 * k)) (range_with_len 0 n)
unfolding words_of
words_of_is b zero = refl
words_of_is b (suc n) =
    let more : n + 1 ≡ suc n = omega arith in
    ap (λ (xs : List ℕ). xs ++ word_at b (8 * n) ∷ []) (words_of_is b n)
    ∙ sym (map-range_with_len_more (λ (k : ℕ). word_at b (8 * k)) 0 n n (omega arith))
    ∙ ap (λ (m : ℕ). map (λ k. word_at b (8 * k)) (range_with_len 0 m)) more

pub first_is : (a : Parameters) (h : List ℕ) (l i : ℕ) → 2 ≤ segment_len a → l < a.lanes → i < 2 → cell a h (place 0 l i) ≡ first_cell h l i
unfolding cell_by
first_is a h l i some lane below =
    let first : is_first (place 0 l i) ≡ true = grind (arith, nat_tests) in
    cell_is a h (place 0 l i) some (record { lane_inside = lane; column_inside = omega arith }) ∙ rw first refl
