-- The names for which a statement writes a row.
use Rattle.std.specs.Prelude.{◌≡◌, ℕ, List, Bool, true, false}
use Rattle.std.specs.FinMap as fin
use Rattle.cred_file.specs.Cells.{Cells}
use Rattle.cred_file.specs.declared.row_statement.RowStatement.{RowStatement}
use Rattle.cred_file.specs.declared.row_statement.RowStatement.TheVariants as statement

-- whether it is for a name that is there
abbrev pub is_update : RowStatement → Bool
is_update statement.Insert = false
is_update statement.Update = true

-- the name is there, or isn't, as the statement needs it
abbrev pub Suits : RowStatement → List ℕ → Cells → Type 0
Suits statement name book = fin.contains_key book name ≡ is_update statement
