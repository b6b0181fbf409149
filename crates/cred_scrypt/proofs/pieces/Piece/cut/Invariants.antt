use Rattle.std.proofs.Common.{◌≡◌, length}
use Rattle.cred_scrypt.specs.Pieces.{AreCut, AreWhole}
use Rattle.cred_scrypt.proofs.pieces.Piece.cut.Given as goal

abbrev pub invariant-cuts : goal.invariant-cuts
invariant-cuts l = record {
  count : length l.pieces.items ≡ l.k;
  cut : AreCut l.r l.bytes l.pieces.items;
  whole : AreWhole l.r l.pieces.items;
}
