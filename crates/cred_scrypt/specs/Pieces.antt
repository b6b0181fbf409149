-- The pieces that the body of scrypt hands to its workers. No public contract speaks of them.
use Rattle.std.specs.Prelude.{◌≡◌, ℕ, ◌*◌, ◌^◌, ◌<◌, List, false, length, slice_index_or}
use Rattle.cred_scrypt.specs.{declared.pieces.Piece.Piece, Mixing.ro_mix, Scrypt.piece}

-- the pieces are those of the bytes b
abbrev pub AreCut : ℕ → List ℕ → List Piece → Type 0
AreCut r b pieces = (k : ℕ) (d : Piece) → k < length pieces
    → (slice_index_or pieces k d).words.items ≡ piece r b k

-- each piece has as many words as ROMix needs
abbrev pub AreWhole : ℕ → List Piece → Type 0
AreWhole r pieces = (k : ℕ) (d : Piece) → k < length pieces
    → length (slice_index_or pieces k d).words.items ≡ 32 * r

-- each piece that got a table is the piece of the bytes b after ROMix
abbrev pub AreMixed : ℕ → ℕ → List ℕ → List Piece → Type 0
AreMixed ln r b pieces = (k : ℕ) (d : Piece) → k < length pieces
    → (slice_index_or pieces k d).refused ≡ false
    → (slice_index_or pieces k d).words.items ≡ ro_mix r (2 ^ ln) (piece r b k)
