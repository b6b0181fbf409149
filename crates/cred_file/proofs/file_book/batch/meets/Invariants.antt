use Rattle.std.proofs.Common.{false}
use Rattle.cred_file.proofs.Joined.{AreAll}
use Rattle.cred_file.proofs.file_book.batch.meets.Given as goal

abbrev pub invariant-loop-name : goal.invariant-loop-name
invariant-loop-name l = AreAll false l.fn.book l.fn.more l.name-iterator
