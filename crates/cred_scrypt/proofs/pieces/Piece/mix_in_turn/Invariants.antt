use Rattle.std.proofs.Common.{◌≡◌, ◌<◌, ◌≤◌, ◌^◌, ℕ, length, slice_index_or, false}
use Rattle.cred_scrypt.specs.{declared.pieces.Piece.Piece, Mixing.ro_mix}
use Rattle.cred_scrypt.proofs.pieces.Piece.mix_in_turn.Given as goal

-- the pieces before k are mixed, and the others are as they were
abbrev pub invariant-pieces : goal.invariant-pieces
invariant-pieces g l = record {
  most : l.scratch ≡ l.initial.scratch;
  count : length l.pieces ≡ length l.initial.pieces;
  mixed : (j : ℕ) (d : Piece) → j < l.k → (slice_index_or l.pieces j d).refused ≡ false
      → (slice_index_or l.pieces j d).words.items ≡ ro_mix l.params.r (2 ^ l.params.ln) (slice_index_or l.initial.pieces j d).words.items;
  rest : (j : ℕ) (d : Piece) → l.k ≤ j → slice_index_or l.pieces j d ≡ slice_index_or l.initial.pieces j d;
}
