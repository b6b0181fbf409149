-- The names of accounts, and their order.
use Rattle.std.specs.Prelude.{ℕ, List, length, Bool, ◌&&◌, ◌||◌, ◌==◌, nat_le, if◌then◌else◌, Result, Ok, Err}
use Rattle.std.specs.{List.list_all, Ordering.nat_cmp, Cmp.Lexicographic.slice_cmp, declared.cmp.Ordering.Ordering}
use Rattle.cred_book.specs.declared.error.BookError.{BookError}
use Rattle.cred_book.specs.declared.error.BookError.TheVariants as error

-- a small letter, a digit, a full stop, a low line or a hyphen
abbrev pub is_name_byte : ℕ → Bool
is_name_byte b =
    (nat_le 97 b && nat_le b 122)
    || ((nat_le 48 b && nat_le b 57) || ((b == 46) || ((b == 95) || (b == 45))))

-- 1 to 32 of them
abbrev pub is_name : List ℕ → Bool
is_name bytes = nat_le 1 (length bytes) && (nat_le (length bytes) 32 && list_all is_name_byte bytes)

-- the answer of a call that makes a name
abbrev pub made_name : List ℕ → Result (List ℕ) BookError
made_name bytes = if is_name bytes then Ok bytes else Err error.Name

-- by the first byte in which they differ; a name comes before those that it begins
abbrev pub name_cmp : List ℕ → List ℕ → Ordering
name_cmp = slice_cmp nat_cmp
