-- Decimal numbers, digit by digit.
use Rattle.std.proofs.Common.{◌≡◌, ℕ, suc, zero, ◌+◌, ◌-◌, ◌*◌, ◌^◌, ◌<◌, ◌==◌, ◌&&◌, ◌||◌, not, nat_lt, min, if◌then◌else◌, lit<, Bool, true, false, List, length, take, get_or, Some, None, decimal, arith, refl, sym, ap, ◌∙◌, rules}
use Rattle.std.proofs.{lemmas.Bool.Decides.nat_tests, lemmas.Int.Digits.digits_value_more, lemmas.Option.cond_some}
use Rattle.std.proofs.lemmas.List.Sums.{AllPass-from_list_all, list_all-from_AllPass}
use borrow.Author.Tests.{ltb-true}
use Rattle.std.specs.{Char.is_ascii_digit, Char.digit_value, Cmp.first_so, Cmp.second_so, List.list_all, Str.Parse.digits_value}
use Rattle.std.proofs.lemmas.Str.Parse.{IsNumeralModel, numerals_by_value}
use Rattle.std.proofs.lemmas.Fmt.{digits_decimal, digits_value-decimal, decimal-digits_value, decimal_nonempty, first_decimal, decimal_digit}
use Rattle.cred_phc.specs.Number.{saturation, is_numeral, number_of}
use Rattle.cred_phc.proofs.PieceLaws.{lacks}

value_of_digit : (c : ℕ) → is_ascii_digit c ≡ true → digit_value c ≡ c - 48
value_of_digit c h = grind (arith, nat_tests)

digits_of_numeral : (ds : List ℕ) → is_numeral ds ≡ true → list_all is_ascii_digit ds ≡ true
digits_of_numeral ds h = second_so _ _ (first_so _ _ h)

cap_once : (v d : ℕ) → saturation (v * 10 + d) ≡ min (min (saturation v * 10) (2 ^ 64 - 1) + d) (2 ^ 64 - 1)
cap_once v d = omega arith

unlike : (d byte : ℕ) → is_ascii_digit d ≡ true → is_ascii_digit byte ≡ false → not (d == byte) ≡ true
unlike d byte h k = grind (arith, nat_tests)

-- one more digit is read
pub push : (ds : List ℕ) (i : ℕ) → is_numeral ds ≡ true → i < length ds
    → saturation (digits_value 10 (take (i + 1) ds)) ≡ min (min (saturation (digits_value 10 (take i ds)) * 10) (2 ^ 64 - 1) + (get_or ds i 0 - 48)) (2 ^ 64 - 1)
push ds i numeral within =
    rw (digits_value_more 10 ds i within, value_of_digit _ (AllPass-from_list_all is_ascii_digit ds (digits_of_numeral ds numeral) i 0 within))
    (cap_once (digits_value 10 (take i ds)) (get_or ds i 0 - 48))

own : IsNumeralModel (λ ds. list_all is_ascii_digit ds ≡ true) (digits_value 10)
own = numerals_by_value _ (search rules)

-- a zero comes first only if it is the only digit
abbrev HasNoLeadingZero : List ℕ → Type 0
HasNoLeadingZero ds = get_or ds 0 0 ≡ 48 → length ds ≡ 1

numeral : (ds : List ℕ) → 0 < length ds → list_all is_ascii_digit ds ≡ true → HasNoLeadingZero ds → is_numeral ds ≡ true
numeral ds some digits first = rw digits (grind (arith, nat_tests))

numeral_first : (ds : List ℕ) → is_numeral ds ≡ true → HasNoLeadingZero ds
numeral_first ds h zero_first =
    let third : (not (get_or ds 0 0 == 48) || (length ds == 1)) ≡ true = second_so (nat_lt 0 (length ds) && list_all is_ascii_digit ds) _ h in grind (arith, nat_tests)

numeral_some : (ds : List ℕ) → is_numeral ds ≡ true → 0 < length ds
numeral_some ds h = ltb-true _ _ (first_so _ _ (first_so _ _ h))

decimal_first : (n : ℕ) → n < 2 ^ 64 → HasNoLeadingZero (decimal n)
decimal_first zero fits h = ap length (decimal_digit 0 (lit< tt))
decimal_first (suc n) fits h = absurd (omega (arith, first_decimal (suc n) (omega arith) fits))

read_at : (b : Bool) (v n : ℕ) → b ≡ true → v ≡ n → (if b then Some v else None) ≡ Some n
read_at b v n h e = rw (h, e) refl

-- a number that is written in decimal is read as itself
pub number_of-decimal : (n : ℕ) → n < 2 ^ 64 → number_of (decimal n) ≡ Some n
unfolding number_of
number_of-decimal n fits =
    read_at _ _ n (numeral (decimal n) (decimal_nonempty n fits) (digits_decimal own n fits) (decimal_first n fits)) (digits_value-decimal own n fits)

-- digits that are read as a number are that number in decimal
pub number_is : (ds : List ℕ) (n : ℕ) → number_of ds ≡ Some n → n < 2 ^ 64 → ds ≡ decimal n
unfolding number_of
number_is ds n e fits =
    let read = cond_some _ _ n e in
    let small : digits_value 10 ds < 2 ^ 64 = rw read.1 fits in
    sym (decimal-digits_value own ds (digits_of_numeral ds read.0) (numeral_some ds read.0) (numeral_first ds read.0) small) ∙ ap decimal read.1

lacks_other : (byte : ℕ) (ds : List ℕ) → is_ascii_digit byte ≡ false → list_all is_ascii_digit ds ≡ true → lacks byte ds ≡ true
lacks_other byte ds other digits =
    list_all-from_AllPass (λ b. not (b == byte)) ds (λ k d within. unlike (get_or ds k d) byte (AllPass-from_list_all is_ascii_digit ds digits k d within) other)

pub lacks-decimal : (byte n : ℕ) → is_ascii_digit byte ≡ false → n < 2 ^ 64 → lacks byte (decimal n) ≡ true
lacks-decimal byte n other fits = lacks_other byte (decimal n) other (digits_decimal own n fits)
