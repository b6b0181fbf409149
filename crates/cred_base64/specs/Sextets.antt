-- Bytes as groups of six bits, and back (RFC 4648, section 4).
use Rattle.std.specs.Prelude.{ℕ, zero, suc, ◌+◌, ◌*◌, ◌/◌, ◌%◌, List, slice_index}

-- the four groups of six bits in three bytes, by their places
abbrev pub group_sextet : ℕ → ℕ → ℕ → ℕ → ℕ
group_sextet zero a b c = a / 4
group_sextet (suc zero) a b c = a % 4 * 16 + b / 16
group_sextet (suc (suc zero)) a b c = b % 16 * 4 + c / 64
group_sextet (suc (suc (suc n))) a b c = c % 64

-- the six bits at a place of the bytes, with zero bits after the last byte
unfoldable pub sextet_at : List ℕ → ℕ → ℕ
sextet_at bytes place = group_sextet (place % 4) (slice_index bytes (place / 4 * 3))
    (slice_index bytes (place / 4 * 3 + 1)) (slice_index bytes (place / 4 * 3 + 2))
