-- When a database is opened as a book, and why it isn't.
use Rattle.std.specs.Prelude.{◌≡◌, ◌⊎◌, ℕ, ℤ, ◌<◌, ◌≤◌, ◌==◌, Bool, true, false, not, ◌&&◌, List, [], length, codes, Option, Some, None, Result, Ok, Err, ⊤}
use Rattle.std.specs.{List.filter, List.list_any, Ordering.is_eq}
use Rattle.sqlite.specs.declared.types.Value.{Value}
use Rattle.sqlite.specs.declared.types.Value.TheVariants.{Null, Text}
use Rattle.sqlite.specs.{declared.error.Error.Error, declared.error.Error.TheVariants.SqliteFailure, declared.error.ErrorCode.TheVariants.DatabaseCorrupt}
use Rattle.sqlite.specs.{Order.Row, Order.column, Order.value_cmp, State.State, State.FailsToQuery}
use Rattle.sqlite_trees.specs.{Tree.has_rowid, View.is_int}
use Rattle.cred_phc.specs.{Errors.error_number, declared.error.PhcError.PhcError}
use Rattle.cred_file.specs.Cells.{Cell, Cells, read_cell}
use Rattle.cred_book.specs.{Accounts.register_capacity, Names.is_name}
use Rattle.cred_file.specs.declared.fault.OpenFault.{OpenFault}
use Rattle.cred_file.specs.declared.fault.OpenFault.TheVariants as fault
use Rattle.cred_file.specs.{Schema.IsBookSchema, Table.StandsFor}

abbrev pub rows_text : List ℕ
rows_text = codes "SELECT rowid, name, record FROM account ORDER BY rowid"

-- anything but the text of a name
abbrev pub is_no_name : Value → Bool
is_no_name (Text t) = not (is_name t)
is_no_name _ = true

-- the reading of a text has this fault
abbrev pub is_refused : PhcError → Result Cell PhcError → Bool
is_refused why (Ok stored) = false
is_refused why (Err e) = error_number e == error_number why

-- a text that is refused as a cell, with this fault
abbrev pub is_bad_text : PhcError → Value → Bool
is_bad_text why (Text t) = is_refused why (read_cell t)
is_bad_text why _ = false

-- neither NULL nor a text
abbrev pub is_no_text : Value → Bool
is_no_text Null = false
is_no_text (Text t) = false
is_no_text _ = true

-- anything but NULL or the text of a record, and why it is no record
abbrev pub is_no_record : Option PhcError → Value → Bool
is_no_record None = is_no_text
is_no_record (Some why) = is_bad_text why

-- both rows have the same value in this column
abbrev pub agree : ℕ → Row → Row → Bool
agree at row other = is_eq (value_cmp (column row at) (column other at))

-- a row of another id has the name of this one
abbrev pub is_repeated : List Row → Row → Bool
is_repeated rows row = list_any (λ other. not (agree 0 row other) && agree 1 row other) rows

abbrev pub corrupt : Error
corrupt = SqliteFailure DatabaseCorrupt

-- a row has no rowid, or two have one
abbrev pub HasBadIds : List Row → Type 0
HasBadIds rows =
    (list_any (λ row. not (is_int (column row 0))) rows ≡ true)
    ⊎ ((id : ℤ) × (2 ≤ length (filter (has_rowid id) rows)))

-- what is wrong with the rows of the table
abbrev pub AreAtFault : List Row → OpenFault → Type 0
AreAtFault rows (fault.NoName id) =
    list_any (λ row. has_rowid id row && is_no_name (column row 1)) rows ≡ true
AreAtFault rows (fault.NoRecord id why) =
    list_any (λ row. has_rowid id row && is_no_record why (column row 2)) rows ≡ true
AreAtFault rows (fault.Twice id) =
    list_any (λ row. has_rowid id row && is_repeated rows row) rows ≡ true
AreAtFault rows fault.TooMany = register_capacity < length rows
AreAtFault rows fault.Memory = ⊤
AreAtFault rows (fault.Database e) = (e ≡ corrupt) × HasBadIds rows
AreAtFault rows _ = ⊥

-- memory ran out, or the database failed: neither is a fault of the tables and rows
abbrev pub IsForWant : OpenFault → Type 0
IsForWant fault.Memory = ⊤
IsForWant (fault.Database e) = ⊤
IsForWant _ = ⊥

-- the visible and the committed database are as before
pub record IsAsBefore (old new : State) : Type 0 where
  pub now : new.now ≡ old.now
  pub committed : new.committed ≡ old.committed
  pub mode : new.in_transaction ≡ old.in_transaction
  pub is_open : new.is_open ≡ old.is_open

-- the rows stand for this book, and nothing has changed
pub record IsFound (old new : State) (book : Cells) : Type 0 where
  pub schema : IsBookSchema old.now.schema
  pub stands : StandsFor (old.now.trees 0) book
  pub same : IsAsBefore old new

-- The schema isn't a book's, or the table's rows are at fault, and nothing has changed; or the
-- database failed when it should read the schema and the rows.
abbrev pub IsUnopened : State → State → OpenFault → Type 0
IsUnopened old new why =
    ((why ≡ fault.NoBook) × (IsBookSchema old.now.schema → ⊥) × IsAsBefore old new)
    ⊎ ((AreAtFault (old.now.trees 0) why × IsAsBefore old new)
    ⊎ ((e : Error) × (why ≡ fault.Database e) × FailsToQuery rows_text [] old new e))
