-- The effect of a command on a kept book.
use Rattle.std.specs.Io.KnownBytes.{Appends, Keeps}
use Rattle.std.specs.Prelude.{◌≡◌, Bool, true, false, Option, Some, None, Result, Ok, Err}
use Rattle.cred_book.specs.Accounts.{register_capacity}
use Rattle.cred_admin.specs.{PasswordOperations.Obeys, AccountOperations.DisablesShown, AccountOperations.Operates}
use Rattle.cred_admin.specs.{Listing.Prints, Listing.Tells, Listing.json_at, Listing.marked_line, Listing.shown_at, Marked.kept_book, Seen.Seen, Seen.seen}
use Rattle.cred_admin.specs.{Statuses.status_of_fault, declared.fault.Fault.Fault, declared.import.ImportFault.ImportFault, declared.status.Status.Status}
use Rattle.cred_admin.specs.declared.status.Status.TheVariants.{Done, Io, Memory, Database, Data}
use Rattle.cred_cli.specs.{Outcome.FrontWritten, Watched.Reading, Watched.Writing}
use Rattle.cred_file.specs.{Keeps.Keeps as IsKept, Kept.Kept, Kept.cells, Opening.IsFound, Opening.IsUnopened, declared.fault.Lost.Lost, declared.fault.OpenFault.OpenFault}
use Rattle.sqlite.specs.{Held.Held, Held.state, State.HasCleanDisk, State.Survives, Store.Ghosts, declared.error.Error.Error}
use Rattle.sqlite.specs.declared.error.ErrorCode.{ErrorCode}
use Rattle.cred_keep.specs.{Imports.Imports, declared.book_command.BookCommand.BookCommand, declared.import.Imported.Imported}
use Rattle.cred_keep.specs.declared.book_command.BookCommand.TheVariants.{Password, Account, DisableShown, Show, ShowJson, List as Lines, Import}
use Rattle.cred_keep.specs.{declared.outcome.CommandResult.CommandResult, declared.outcome.Failure.Failure}
use Rattle.std.specs.FinMap as map
use Rattle.cred_admin.specs.declared.fault.Fault.TheVariants as fault
use Rattle.cred_admin.specs.declared.import.ImportFault.TheVariants as import
use Rattle.cred_file.specs.declared.fault.OpenFault.TheVariants as open_fault
use Rattle.sqlite.specs.declared.error.Error.TheVariants as sqlite
use Rattle.sqlite.specs.declared.error.ErrorCode.TheVariants as code
use Rattle.cred_keep.specs.declared.outcome.CommandResult.TheVariants as command_result
use Rattle.cred_keep.specs.declared.outcome.Failure.TheVariants as failure

-- ---- how it ends

abbrev pub command_end : Result Status Fault → Result CommandResult Failure
command_end (Ok status) = Ok (command_result.Answered status)
command_end (Err e) = Err (failure.Command e)

-- the counts of an import are written; a failed import writes nothing
abbrev pub EndsImport : Result Imported ImportFault → Writing → Result CommandResult Failure
    → Type 0
EndsImport (Ok made) w (Ok e) =
    Appends w.before w.now made.text.items × (e ≡ command_result.Imported made)
EndsImport (Ok made) w (Err e) = (w.failed ≡ true)
    × FrontWritten w.before w.now made.text.items × (e ≡ failure.Command fault.Write)
EndsImport (Err why) w ended = Keeps w.before w.now × (ended ≡ Err (failure.Import why))

-- if a change is lost, the fault is the database's
abbrev pub unless_lost : Option Lost → Result CommandResult Failure → Result CommandResult Failure
unless_lost None ended = ended
unless_lost (Some l) ended = Err failure.Database

abbrev pub status_of_command_result : CommandResult → Status
status_of_command_result (command_result.Answered status) = status
status_of_command_result (command_result.Imported made) = Done

abbrev pub status_of_import : ImportFault → Status
status_of_import import.Read = Io
status_of_import import.Memory = Memory
status_of_import import.Full = Data
status_of_import (import.Lines bad) = Data

abbrev pub status_of_failure : Failure → Status
status_of_failure (failure.Command e) = status_of_fault e
status_of_failure (failure.Import e) = status_of_import e
status_of_failure failure.Database = Database

-- the exit status
abbrev pub status_of_end : Result CommandResult Failure → Status
status_of_end (Ok e) = status_of_command_result e
status_of_end (Err e) = status_of_failure e

abbrev pub status_of_code : ErrorCode → Status
status_of_code code.OutOfMemory = Memory
status_of_code _ = Database

abbrev pub status_of_error : Error → Status
status_of_error (sqlite.SqliteFailure c) = status_of_code c
status_of_error _ = Database

-- the exit status if no book is created or opened
abbrev pub status_of_open : OpenFault → Status
status_of_open open_fault.Memory = Memory
status_of_open (open_fault.Database e) = status_of_error e
status_of_open _ = Database

-- ---- what it does

-- an end in cred_admin with this property becomes this end of a command
abbrev pub Commands : (Result Status Fault → Type 0) → Result CommandResult Failure → Type 0
Commands Holds ended = (r : Result Status Fault) × Holds r × (ended ≡ command_end r)

abbrev pub Performs : BookCommand → Seen → Result CommandResult Failure → Type 0
Performs (Password name operation) s ended =
    Commands (Obeys register_capacity name operation s) ended
Performs (Account operation) s ended =
    Commands (Operates register_capacity s.old s.new operation s.writing) ended
Performs (DisableShown name) s ended =
    Commands (DisablesShown s.old s.new name (map.get s.old.accounts name) s.writing) ended
Performs (Show name detail) s ended =
    Commands (Tells (shown_at detail (s.old.marks name) (map.get s.old.accounts name)) s.writing)
    ended × (s.new ≡ s.old)
Performs (ShowJson name detail) s ended =
    Commands (Tells (json_at detail name (s.old.marks name) (map.get s.old.accounts name))
    s.writing) ended × (s.new ≡ s.old)
Performs (Lines line) s ended =
    Commands (Prints (marked_line line s.old) (map.entries s.old.accounts) s.writing) ended
    × (s.new ≡ s.old)
Performs (Import how) s ended = (r : Result Imported ImportFault)
    × Imports how s.reading s.old s.new r × EndsImport r s.writing ended

-- how the command ends for the shell: Ok means that no change is lost
abbrev pub Ends : BookCommand → Seen → Option Lost → Result CommandResult Failure → Type 0
Ends command s lost ended =
    (r : Result CommandResult Failure) × Performs command s r × (ended ≡ unless_lost lost r)

-- how a command leaves its book: the command ends so, and the table stands for the book until a
-- change is lost
pub record Leaves {S : Type 0} (g : Ghosts S) (command : BookCommand) (s : Seen) (kept : Kept S)
    (ended : Result CommandResult Failure) : Type 0 where
  pub ends : Ends command s kept.lost ended
  pub keeps : IsKept g kept.conn (cells kept) kept.lost

-- the command is done once on the opened book of a database, and the connection comes back as the
-- command left it
pub record IsCarriedOut {S : Type 0} (g : Ghosts S) (command : BookCommand) (r : Reading) (w : Writing)
    (old new : Held S) (status : Status) : Type 0 where
  pub opened : Kept S
  pub found : HasCleanDisk (state g opened.conn)
      → IsFound (state g old) (state g opened.conn) (cells opened)
  pub kept : Kept S
  pub ended : Result CommandResult Failure
  pub leaves : Leaves g command (seen r w (kept_book opened) (kept_book kept)) kept ended
  pub closed : new ≡ kept.conn
  pub told : status ≡ status_of_end ended

-- the database holds no book, and nothing changes
pub record IsRefused {S : Type 0} (g : Ghosts S) (old new : Held S) (status : Status) : Type 0 where
  pub why : OpenFault
  pub unopened : HasCleanDisk (state g new) → IsUnopened (state g old) (state g new) why
  pub kept : Survives (state g old) (state g new) (λ _. ⊥)
  pub told : status ≡ status_of_open why

-- the command reads nothing
abbrev pub is_unread : BookCommand → Bool
is_unread (Lines line) = true
is_unread (Show name detail) = true
is_unread (ShowJson name detail) = true
is_unread (Account operation) = true
is_unread (DisableShown name) = true
is_unread (Password name operation) = false
is_unread (Import how) = false
