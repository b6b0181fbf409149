use Rattle.cred_file.proofs.Joined.{AreReplaced}
use Rattle.cred_file.proofs.transaction.replace_each.Given as goal

abbrev pub invariant-loop-name : goal.invariant-loop-name
invariant-loop-name l = AreReplaced l.fn.book l.fn.changed l.book l.name-iterator
