use Rattle.std.proofs.Common.{◌≡◌}
use Rattle.cred_file.specs.Cells.{AllMarks, Cells, cells_of}
use Rattle.sqlite.specs.{State.HasCleanDisk, State.Survives, Held.state}
use Rattle.cred_file.specs.Transactions.{IsUnderWay, added_mark}
use Rattle.cred_file.proofs.{Joined.AreEntered, SoFar.so_far}
use Rattle.cred_file.proofs.transaction.enter_each.Given as goal

abbrev pub invariant-loop-name : goal.invariant-loop-name
invariant-loop-name g l = record {
  same : l.tx.conn.ghost_name ≡ l.initial.tx.conn.ghost_name;
  entered : AreEntered l.fn.book l.fn.more l.book l.name-iterator;
  survives : Survives (state g.S.Store l.fn.tx.conn.now) (state g.S.Store l.tx.conn.now) (λ _. ⊥);
  under : HasCleanDisk (state g.S.Store l.tx.conn.now) → (first : Cells) (marks : AllMarks) → IsUnderWay (state g.S.Store l.fn.tx.conn.now) first (cells_of l.fn.book marks)
      → IsUnderWay (state g.S.Store l.tx.conn.now) first (cells_of l.book (so_far (added_mark l.fn.given) marks l.fn.more l.name-iterator));
}
