use Rattle.std.proofs.Common.{true}
use Rattle.cred_file.proofs.Joined.{AreAll}
use Rattle.cred_file.proofs.file_book.batch.misses.Given as goal

abbrev pub invariant-loop-name : goal.invariant-loop-name
invariant-loop-name l = AreAll true l.fn.book l.fn.changed l.name-iterator
