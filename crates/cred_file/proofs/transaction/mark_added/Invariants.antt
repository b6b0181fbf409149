use Rattle.std.proofs.Common.{◌≡◌}
use Rattle.cred_file.specs.{Cells.mark_at, Transactions.HasRoom, Transactions.added_mark}
use Rattle.cred_file.proofs.{Joined.AreLeft, SoFar.so_far}
use Rattle.cred_file.proofs.transaction.mark_added.Given as goal

abbrev pub invariant-loop-name : goal.invariant-loop-name
invariant-loop-name l = record {
  are : AreLeft l.fn.added l.name-iterator;
  so : mark_at l.marks ≡ so_far (added_mark l.fn.given) (mark_at l.fn.marks) l.fn.added l.name-iterator;
  room : HasRoom l.marks l.fn.given;
}
