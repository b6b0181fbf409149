use Rattle.std.proofs.Common.{◌≡◌}
use Rattle.sqlite.specs.{State.Survives, Held.state}
use Rattle.cred_file.specs.{Cells.mark_at, Transactions.changed_mark}
use Rattle.cred_file.proofs.SoFar.{AreUpdated}
use Rattle.cred_file.proofs.transaction.update_each.Given as goal

abbrev pub invariant-loop-name : goal.invariant-loop-name
invariant-loop-name g l = record {
  same : l.tx.conn.ghost_name ≡ l.initial.tx.conn.ghost_name;
  updated : AreUpdated (state g.S.Store l.fn.tx.conn.now) (state g.S.Store l.tx.conn.now) (changed_mark l.fn.given) (mark_at l.fn.marks) l.fn.changed l.name-iterator;
  survives : Survives (state g.S.Store l.fn.tx.conn.now) (state g.S.Store l.tx.conn.now) (λ _. ⊥);
}
