-- The book while its rows are read, one at a time.
use Rattle.std.specs.Prelude.{◌≡◌, ◌⊎◌, ℤ, ◌≤◌, true, false, Bool, List, [], ◌∷◌, ◌++◌, Option, Some, None, ⊤}
use Rattle.std.specs.{List.list_any, Ordering.int_cmp, Ordering.is_lt}
use Rattle.std.specs.FinMap as fin
use Rattle.sqlite.specs.{declared.types.Value.TheVariants.Int, Order.Row, Order.column}
use Rattle.sqlite_trees.specs.{Tree.has_rowid, View.is_int}
use Rattle.cred_file.specs.Cells.{Cells}
use Rattle.cred_book.specs.Accounts.{register_capacity}
use Rattle.cred_file.specs.declared.fault.OpenFault.{OpenFault}
use Rattle.cred_file.specs.declared.fault.OpenFault.TheVariants as fault
use Rattle.cred_file.specs.{Table.Line, Table.Says, Table.StandsFor, Opening.corrupt, Opening.is_no_name, Opening.is_no_record}

-- whether an id is above the last one, if there is one
abbrev pub is_past : Option ℤ → ℤ → Bool
is_past None id = true
is_past (Some last) id = is_lt (int_cmp last id)

-- the last row has this id
abbrev pub EndsAt : List Row → Option ℤ → Type 0
EndsAt rows None = rows ≡ []
EndsAt rows (Some id) =
    (front : List Row) × (row : Row) × (rows ≡ front ++ row ∷ []) × (column row 0 ≡ Int id)

-- the rows so far stand for the book, and the last row has this id, which is the highest
pub record IsDraftOf (rows : List Row) (book : Cells) (last : Option ℤ) : Type 0 where
  pub stands : StandsFor rows book
  pub below : (id : ℤ) → is_past last id ≡ true → list_any (has_rowid id) rows ≡ false
  pub ends : EndsAt rows last

-- one row more
pub record IsAdded (row : Row) (book : Cells) (last : Option ℤ) (after : Cells)
    (next : Option ℤ) : Type 0 where
  pub line : Line
  pub says : Says row line
  pub past : is_past last line.id ≡ true
  pub new_name : fin.contains_key book line.name ≡ false
  pub book_is : after ≡ fin.insert book line.name line.stored
  pub next_is : next ≡ Some line.id

-- why a row is not added: the row says no line, or there is no place for the line
abbrev pub IsNotAdded : Row → Cells → Option ℤ → OpenFault → Type 0
IsNotAdded row book last (fault.NoName id) =
    (column row 0 ≡ Int id) × (is_no_name (column row 1) ≡ true)
IsNotAdded row book last (fault.NoRecord id why) =
    (column row 0 ≡ Int id) × (is_no_record why (column row 2) ≡ true)
IsNotAdded row book last (fault.Twice id) =
    (l : Line) × Says row l × (l.id ≡ id) × (is_past last id ≡ true)
    × (fin.contains_key book l.name ≡ true)
IsNotAdded row book last fault.TooMany = register_capacity ≤ fin.len book
IsNotAdded row book last fault.Memory = ⊤
IsNotAdded row book last (fault.Database e) = (e ≡ corrupt)
    × ((is_int (column row 0) ≡ false)
    ⊎ ((id : ℤ) × (column row 0 ≡ Int id) × (is_past last id ≡ false)))
IsNotAdded row book last _ = ⊥
