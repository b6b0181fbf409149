-- The result of a crash after changes that follow one another, and the book that the next run
-- finds.
use Rattle.std.proofs.Common.{◌≡◌, ◌≤◌, arith, List, None, Option, subst}
use Rattle.std.specs.FinMap as fin
use Rattle.sqlite.specs.{Held.Held, Held.state, State.HasCleanDisk, Store.Ghosts}
use Rattle.sqlite_trees.specs.View.{IsQuiet}
use Rattle.cred_book.specs.Accounts.{register_capacity}
use Rattle.cred_file.specs.{Cells.Cells, Kept.Kept, Kept.cells, Opening.IsForWant, declared.fault.Lost.Lost, declared.fault.OpenFault.OpenFault}
use Rattle.cred_file.specs.Keeps.{HoldsBook, IsOrWith, Keeps, LeavesOnly, MayLeave, MayRefuse}
use Rattle.cred_file.proofs.FoundAgain.{found_again, stands_once}
use Rattle.crash_laws.specs.Crashes.{Asked, Follow, IsLeft, IsRun}
use Rattle.crash_laws.proofs.Made.{all_made, left_of_made}

module _ {S : Type 0} (g : Ghosts S) where
  pub left_after : (first last : Kept S) (asked : List Asked) → first.lost ≡ None → Follow g first asked last → Keeps g last.conn (cells last) last.lost → HasCleanDisk (state g last.conn)
      → LeavesOnly (state g last.conn) (IsLeft (cells first) asked)
  left_after first last asked whole follow keeps clean db may =
      let l = keeps.left clean db may in
      (l.0, left_of_made g first last asked l.0 (all_made g first last asked follow) whole l.1, l.2)

  module _ (first last : S) (asked : List Asked) (book : Cells) (run : IsRun g first last asked) (held : HoldsBook (g.view first).committed book) where
    pub found_after : (again : Cells) → MayLeave g last again → IsLeft book asked again
    found_after again may =
        let l = run.left may.clean book held may.db may.left in
        subst (IsLeft book asked) (stands_once (may.db 0) l.0 again l.2.stands may.holds.stands) l.1

    pub refused_after : (why : OpenFault) → fin.len book ≤ register_capacity → MayRefuse g last why → IsForWant why
    refused_after why few may =
        let l = run.left may.clean book held may.db may.left in
        may.for_want l.0 l.2 (l.3 few)

pub kept_after : {S : Type 0} (g : Ghosts S) (conn : Held S) (book again : Cells) (lost : Option Lost) (left : S) → Keeps g conn book lost → IsQuiet g.view g.faults g.recovers g.is_shielded conn.store left → MayLeave g left again
    → IsOrWith book lost again
kept_after g conn book again lost left keeps quiet may =
    found_again g conn book again lost keeps (omega (arith, may.clean, quiet.clean)) may.db (quiet.outcomes may.db may.left) may.holds.stands
