use Rattle.std.proofs.Common.{◌≡◌}
use Rattle.cred_file.specs.{Cells.mark_at, Transactions.HasRoom, Transactions.changed_mark}
use Rattle.cred_file.proofs.{Joined.AreLeft, SoFar.so_far}
use Rattle.cred_file.proofs.transaction.mark_changed.Given as goal

abbrev pub invariant-loop-name : goal.invariant-loop-name
invariant-loop-name l = record {
  are : AreLeft l.fn.changed l.name-iterator;
  so : mark_at l.marks ≡ so_far (changed_mark l.fn.given) (mark_at l.fn.marks) l.fn.changed l.name-iterator;
  room : HasRoom l.marks l.fn.given;
}
