-- Letters by arithmetic are those of the table: 64 cases each way.
use Rattle.std.proofs.Common.{◌≡◌, ◌∙◌, ℕ, ◌+◌, ◌-◌, ◌*◌, ◌%◌, ◌<◌, ◌==◌, nat_le, cond, Bool, refl, ap}
use Rattle.std.proofs.lemmas.Bool.{eqb-true}
use Rattle.base64.proofs.Tables.{all_below_at}
use Rattle.cred_base64.specs.Letters.{letter_of}

-- 0 below a number, and 1 from that number on
abbrev pub step : ℕ → ℕ → ℕ
step number least = cond (nat_le least number) 1 0

-- the result of `letter`
abbrev pub letter_code : ℕ → ℕ
letter_code v = 65 + v + 6 * step v 26 - 75 * step v 52 - 15 * step v 62 + 3 * step v 63

-- the result of `sextet_of`
abbrev pub sextet_code : ℕ → ℕ
sextet_code c = (c + 19 - 3 * step c 44 - 12 * step c 48 + 59 * step c 58 - 6 * step c 91) % 64

code_is_letter : ℕ → Bool
code_is_letter v = letter_code v == letter_of v

letter_is_back : ℕ → Bool
letter_is_back v = sextet_code (letter_of v) == v

pub letter_code_is : (v : ℕ) → v < 64 → letter_code v ≡ letter_of v
unfolding letter_of code_is_letter
letter_code_is v small = eqb-true (letter_code v) (letter_of v) (all_below_at code_is_letter 64 v refl small)

pub sextet_code_is : (c v : ℕ) → v < 64 → c ≡ letter_of v → sextet_code c ≡ v
unfolding letter_of letter_is_back
sextet_code_is c v small is = ap sextet_code is ∙ eqb-true (sextet_code (letter_of v)) v (all_below_at letter_is_back 64 v refl small)
