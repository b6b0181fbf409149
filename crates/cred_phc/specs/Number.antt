-- Decimal numbers.
use Rattle.std.specs.Prelude.{ℕ, ◌==◌, ◌-◌, ◌^◌, min, nat_lt, Bool, not, ◌&&◌, ◌||◌, if◌then◌else◌, List, length, slice_index, Option, Some, None}
use Rattle.std.specs.{Char.is_ascii_digit, List.list_all, Str.Parse.digits_value}

-- digits, with no zero in front of others
abbrev pub is_numeral : List ℕ → Bool
is_numeral ds =
    nat_lt 0 (length ds) && list_all is_ascii_digit ds
    && (not (slice_index ds 0 == 48) || (length ds == 1))

-- the number that the digits write
unfoldable pub number_of : List ℕ → Option ℕ
number_of ds = if is_numeral ds then Some (digits_value 10 ds) else None

-- the number, or the greatest one of 64 bits
abbrev pub saturation : ℕ → ℕ
saturation n = min n (2 ^ 64 - 1)

abbrev pub saturation_each : ℕ × ℕ × ℕ → ℕ × ℕ × ℕ
saturation_each n = (saturation n.0, saturation n.1, saturation n.2)
