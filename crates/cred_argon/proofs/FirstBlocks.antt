-- The first two blocks of each lane, as they are laid into a slice.
use Rattle.std.proofs.Common.{◌≡◌, ◌≢◌, ℕ, zero, suc, ◌<◌, ◌≤◌, ◌+◌, ◌*◌, List, length, slice_index_or, slice_set, inl, inr, arith}
use Rattle.std.proofs.{Math.Nat.mul-le-mul_right, lemmas.Bool.cases_eq, lemmas.List.get_or-set_same, lemmas.List.get_or-set_other, lemmas.List.length-set}
use Rattle.cred_argon.specs.{declared.block.Block.Block, Cells.first_cell}

pub record HasFirstBlocks (h : List ℕ) (s n : ℕ) (blocks : List Block) : Type 0 where
  pub some : 0 < n → 2 ≤ s
  pub first : (l i : ℕ) (d : Block) → l < n → i < 2 → (slice_index_or blocks (l * s + i) d).0 ≡ first_cell h l i

pub first_blocks_more : (h : List ℕ) (s n : ℕ) (blocks : List Block) (one two : Block) → 2 ≤ s → n * s + 1 < length blocks
    → one.0 ≡ first_cell h n 0 → two.0 ≡ first_cell h n 1 → HasFirstBlocks h s n blocks
    → HasFirstBlocks h s (n + 1) (slice_set (slice_set blocks (n * s) one) (n * s + 1) two)
first_blocks_more h s n blocks one two some room one_is two_is laid = record {
  some = λ _. some;
  first = λ l i d below inside. elim (cases_eq l n) [
    | inl same ↦ rw same (last i d inside)
    | inr other ↦
        let lower : (l + 1) * s ≤ n * s = mul-le-mul_right s (omega (arith, below, other)) in
        let apart_two : l * s + i ≢ n * s + 1 = λ e. absurd (omega (arith, lower, some, inside, e)) in
        let apart_one : l * s + i ≢ n * s = λ e. absurd (omega (arith, lower, some, inside, e)) in
        rw (
          get_or-set_other (slice_set blocks (n * s) one) (n * s + 1) (l * s + i) two d apart_two,
          get_or-set_other blocks (n * s) (l * s + i) one d apart_one,
        ) (laid.first l i d (omega (arith, below, other)) inside)
  ];
}
  where
    last : (i : ℕ) (d : Block) → i < 2
        → (slice_index_or (slice_set (slice_set blocks (n * s) one) (n * s + 1) two) (n * s + i) d).0 ≡ first_cell h n i
    last zero d inside =
        let apart : n * s + 0 ≢ n * s + 1 = λ e. absurd (omega (arith, e)) in
        let here : n * s + 0 ≡ n * s = omega arith in
        rw (get_or-set_other (slice_set blocks (n * s) one) (n * s + 1) (n * s + 0) two d apart)
        (rw (here, get_or-set_same blocks (n * s) one d (omega (arith, room))) one_is)
    last (suc zero) d inside =
        rw (get_or-set_same (slice_set blocks (n * s) one) (n * s + 1) two d (rw (length-set blocks (n * s) one) room)) two_is
    last (suc (suc i)) d inside = absurd (omega (arith, inside))
