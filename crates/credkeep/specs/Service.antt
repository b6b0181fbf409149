-- The effect of a service of tagged lines on a database, and how the service ends.
use Rattle.std.specs.Prelude.{◌≡◌, ℕ, List, length, Bool, Option, Some, None, IfSome, is_some}
use Rattle.sqlite.specs.{Held.Held, Held.state, State.HasCleanDisk, Store.Ghosts}
use Rattle.cred_book.specs.Accounts.{register_capacity}
use Rattle.cred_admin.specs.Marked.{MarkedBook, kept_book}
use Rattle.cred_admin.specs.declared.status.Status.{Status}
use Rattle.cred_admin.specs.declared.status.Status.TheVariants.{Done, Io, Memory, Database, Data}
use Rattle.cred_cli.specs.{Script.lines_of, declared.watched.Watched.Watched}
use Rattle.cred_file.specs.{Keeps.Keeps as IsKept, Kept.Kept, Kept.cells, Opening.IsFound}
use Rattle.cred_many.specs.{Served.StandsAtEnd, Served.left_of, Service.Service, declared.fault.ServiceFault.ServiceFault}
use Rattle.cred_many.specs.declared.fault.ServiceFault.TheVariants as fault
use Rattle.cred_many.specs.declared.ending.Served.{Served}

abbrev pub status_of_fault : ServiceFault → Status
status_of_fault fault.Read = Io
status_of_fault fault.Write = Io
status_of_fault fault.Memory = Memory
status_of_fault fault.Threads = Memory
status_of_fault fault.Keeper = Database
status_of_fault fault.TooLong = Data
status_of_fault fault.Lost = Io

abbrev pub status_of_end : Option ServiceFault → Status
status_of_end (Some e) = status_of_fault e
status_of_end None = Done

-- The service opens and serves the book of a database, and the connection and the writer come back
-- as the service left them. Until a change is lost, the table stands for the book after the lines
-- that were done. A later crash leaves that book, or the book with the lost change. If nothing
-- failed, all lines came.
pub record ServesBook {S W L : Type 0} (g : Ghosts S) (contents : W → Option (List ℕ))
    (failed : L → Bool) (service : MarkedBook → Service) (old new : Held S) (writer : Watched W)
    (status : Status) : Type 0 where
  pub opened : Kept S
  pub found : HasCleanDisk (state g opened.conn)
      → IsFound (state g old) (state g opened.conn) (cells opened)
  pub served : Served (Kept S) W L
  pub stands : ∥ StandsAtEnd register_capacity (service (kept_book opened))
      (left_of kept_book (λ b. is_some b.lost) contents failed served) ∥₁
  pub all : served.fault ≡ None
      → IfSome (service (kept_book opened)).input (λ bytes. served.lines ≡ length (lines_of bytes))
  pub keeps : IsKept g new (cells served.keeper) served.keeper.lost
  pub closed : new ≡ served.keeper.conn
  pub returned : writer ≡ served.writer
  pub told : status ≡ status_of_end served.fault
