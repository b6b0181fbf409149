use Rattle.std.proofs.Common.{◌≡◌, ℕ, List}
use Rattle.cred_scrypt.specs.{Scrypt.mixed_pieces, Pieces.AreMixed}
use Rattle.cred_scrypt.proofs.pieces.Piece.joined.Given as goal

abbrev pub invariant-joins : goal.invariant-joins
invariant-joins l = (ln r : ℕ) (b : List ℕ) → AreMixed ln r b l.pieces
    → l.bytes.items ≡ mixed_pieces ln r b l.piece-index
