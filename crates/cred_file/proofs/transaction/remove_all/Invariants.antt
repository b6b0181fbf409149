use Rattle.cred_file.proofs.Joined.{AreRemoved}
use Rattle.cred_file.proofs.transaction.remove_all.Given as goal

abbrev pub invariant-loop-name : goal.invariant-loop-name
invariant-loop-name l = AreRemoved l.fn.book l.fn.more l.book l.name-iterator
