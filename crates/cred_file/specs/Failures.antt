-- The reasons why no book is created, and what is told of a lost change.
use Rattle.std.specs.Prelude.{◌≡◌, ◌≢◌, ◌≤◌, ℕ, Bool, if◌then◌else◌, List, [], ◌∷◌, Some, None, IfErr, IfSome, OnOk, Result, Err}
use Rattle.sqlite.specs.{declared.error.Error.Error, declared.types.Value.Value, declared.types.Value.TheVariants.Text, Held.Held, Held.state, Order.Row}
use Rattle.sqlite.specs.{State.Executes, State.HasCleanDisk, Store.Ghosts}
use Rattle.sqlite_trees.specs.View.{doubt}
use Rattle.cred_file.specs.Cells.{Cell, Cells}
use Rattle.cred_book.specs.{declared.error.BookError.BookError}
use Rattle.cred_book.specs.declared.error.BookError.TheVariants as error
use Rattle.cred_file.specs.{declared.fault.Attempt.Attempt, declared.fault.Lost.Lost, declared.fault.OpenFault.OpenFault}
use Rattle.cred_file.specs.declared.fault.OpenFault.TheVariants as fault
use Rattle.cred_file.specs.{Changes.Becomes, Changes.after_attempt, Kept.Kept, Kept.cells, Schema.create_text, Schema.delete_text, Schema.insert_text, Schema.no_schema, Schema.rename_text, Schema.update_text}
use Rattle.cred_file.specs.{Keeps.Makes, Keeps.MayMake, Table.Tells}

-- if the disk returns the written bytes, the statement was run and this was its error
abbrev pub Refuses : {S : Type 0} → Ghosts S → Held S → Held S → List ℕ → Row → Error → Type 0
Refuses g old new sql params e =
    HasCleanDisk (state g new) → Executes sql params (state g old) (state g new) (Err e)

-- There is a table already, or memory ran out, and the connection is as it was. Or the database
-- failed when it should create the table.
abbrev pub IsUnbegun : {S : Type 0} → Ghosts S → Held S → Held S → OpenFault → Type 0
IsUnbegun g old new fault.NotEmpty = ((state g old).now.schema ≢ no_schema) × (new ≡ old)
IsUnbegun g old new fault.Memory = ((state g old).now.schema ≡ no_schema) × (new ≡ old)
IsUnbegun g old new (fault.Database e) =
    ((state g old).now.schema ≡ no_schema) × Refuses g old new create_text [] e
IsUnbegun g old new _ = ⊥

-- by whether the name is there
abbrev pub put_text : Bool → List ℕ
put_text is_there = if is_there then update_text else insert_text

-- the statement that puts a record, or none, at a name was refused
abbrev pub FailsToPut : {S : Type 0} → Ghosts S → Held S → Held S → Bool → List ℕ → Cell
    → Error → Type 0
FailsToPut g old new is_there name stored e = (value : Value) × Tells value stored
    × Refuses g old new (put_text is_there) (Text name ∷ value ∷ []) e

-- the statement that deletes the row of a name was refused
abbrev pub FailsToDelete : {S : Type 0} → Ghosts S → Held S → Held S → List ℕ → Error → Type 0
FailsToDelete g old new name = Refuses g old new delete_text (Text name ∷ [])

-- the statement that renames the row was refused
abbrev pub FailsToRename : {S : Type 0} → Ghosts S → Held S → Held S → List ℕ → List ℕ → Error
    → Type 0
FailsToRename g old new name other = Refuses g old new rename_text (Text name ∷ Text other ∷ [])

-- The result of a statement that changes the table. If it succeeds, it turns one book into another.
-- A crash leaves the one book or the other. Its errors are of this kind.
pub record Changes {S : Type 0} (g : Ghosts S) (old new : Held S) (Fits : Cells → Type 0)
    (after : Cells → Cells) (Fails : Error → Type 0) (r : Result ℕ Error) : Type 0 where
  pub done : HasCleanDisk (state g new) → OnOk r (Makes (state g old) (state g new) Fits after)
  pub left : HasCleanDisk (state g new) → MayMake (state g old) (state g new) Fits after
  pub refused : IfErr r Fails
  pub clean : doubt (state g old).is_clean ≤ doubt (state g new).is_clean

-- the lost change is the attempted one, with the error of its statement
pub record IsLossOf (attempt : Attempt) (Fails : Error → Type 0) (l : Lost) : Type 0 where
  pub attempt_is : l.attempt ≡ attempt
  pub error : Fails l.error

-- A lost change stays lost. If no change was lost, only this one may be, with the error of its
-- statement.
pub record Loses {S : Type 0} (attempt : Attempt) (Fails : Error → Type 0) (old new : Kept S)
    : Type 0 where
  pub remembered : IfSome old.lost (λ l. new.lost ≡ Some l)
  pub lost : old.lost ≡ None → IfSome new.lost (IsLossOf attempt Fails)

-- the same, and the call that makes this change answers Ok only if the change is written, and no
-- change was or is lost. The accounts and their marks are then those of the change, and after an
-- error they are as they were
pub record Remembers {S : Type 0} (attempt : Attempt) (Fails : Error → Type 0) (old new : Kept S)
    (result : Result (Unit {0}) BookError) : Type 0 where
  pub made : Becomes (cells old) (cells new) (after_attempt (cells old) attempt) result
  pub written : OnOk result ((old.lost ≡ None) × (new.lost ≡ None))
  pub loses : Loses attempt Fails old new

-- a disk that is clean after a call was clean before it
abbrev pub WasClean : {S : Type 0} → Ghosts S → Kept S → Kept S → Type 0
WasClean g old new = doubt (state g old.conn).is_clean ≤ doubt (state g new.conn).is_clean

-- a change that is refused, but for want of memory, isn't lost
abbrev pub LosesForMemory : {S : Type 0} → Kept S → Kept S → Result (Unit {0}) BookError → Type 0
LosesForMemory old new result = IfErr result (λ e. e ≢ error.Memory → new.lost ≡ old.lost)
