-- The condition of the work on a piece, and its effect.
use Rattle.std.specs.Prelude.{◌≡◌, ◌*◌, ◌^◌, false, length}
use Rattle.cred_scrypt.specs.{declared.pieces.Mixing.Mixing, declared.pieces.Piece.Piece, Mixing.ro_mix}

-- the piece has as many words as ROMix needs
abbrev pub CanWork : Mixing → Piece → Type 0
CanWork shared old = length old.words.items ≡ 32 * shared.params.r

-- the words are mixed, if there was memory
abbrev pub Works : Mixing → Piece → Piece → Type 0
Works shared old new =
    new.refused ≡ false
    → new.words.items ≡ ro_mix shared.params.r (2 ^ shared.params.ln) old.words.items
