-- When the rows of the table stand for a book.
use Rattle.std.specs.Prelude.{◌≡◌, ℕ, ℤ, Bool, false, List, [], ◌∷◌, map, Ok, IsTrue, ⊤}
use Rattle.std.specs.{List.AllZip, List.list_any, Ordering.is_eq, Ordering.eq_by_cmp}
use Rattle.std.specs.FinMap as fin
use Rattle.sqlite.specs.declared.types.Value.{Value}
use Rattle.sqlite.specs.declared.types.Value.TheVariants.{Null, Int, Text}
use Rattle.sqlite.specs.Order.{Row, column, value_cmp}
use Rattle.cred_file.specs.Cells.{Cell, Cells, blank, is_blank, read_cell}
use Rattle.cred_book.specs.{Names.is_name, Names.name_cmp}

-- what a row says: its rowid, a name, and the record that stands there, if one does
pub record Line : Type 0 where
  pub id : ℤ
  pub name : List ℕ
  pub stored : Cell

-- NULL stands for an account with no record and no mark, and a text for the cell as which it is
-- read
abbrev pub Tells : Value → Cell → Type 0
Tells Null c = c ≡ blank
Tells (Text t) c = read_cell t ≡ Ok c
Tells _ c = ⊥

-- the text of a cell; of a blank one, any
abbrev pub IsTextOf : List ℕ → Cell → Type 0
IsTextOf t c = is_blank c ≡ false → read_cell t ≡ Ok c

pub record Says (row : Row) (l : Line) : Type 0 where
  pub id : column row 0 ≡ Int l.id
  pub name : column row 1 ≡ Text l.name
  pub is_name : IsTrue (is_name l.name)
  pub stored : Tells (column row 2) l.stored

abbrev pub entry_of : Line → List ℕ × Cell
entry_of l = (l.name, l.stored)

abbrev pub has_id : ℤ → Line → Bool
has_id id l = is_eq (value_cmp (Int l.id) (Int id))

abbrev pub has_name : List ℕ → Line → Bool
has_name name l = eq_by_cmp name_cmp name l.name

-- no rowid and no name comes twice
abbrev pub AreApart : List Line → Type 0
AreApart [] = ⊤
AreApart (l ∷ ls) =
    (list_any (has_id l.id) ls ≡ false) × (list_any (has_name l.name) ls ≡ false) × AreApart ls

-- each row says a line, no two lines have one name, and their entries are the book
pub record StandsFor (rows : List Row) (book : Cells) : Type 0 where
  pub lines : List Line
  pub each : AllZip Says rows lines
  pub apart : AreApart lines
  pub book_is : fin.from_entries (map entry_of lines) ≡ book
