use Rattle.std.specs.FinMap as map
use Rattle.cred_many.proofs.Listed.{GoesMarked}
use Rattle.cred_many.proofs.listing.push_marks.Given as goal

-- what is left is still to be written
abbrev pub invariant-loop-name : goal.invariant-loop-name
invariant-loop-name g l =
    GoesMarked (g.K.Host.book l.fn.keeper).marks l.fn.from l.fn.line.items l.fn.most (map.entries (g.K.Host.book l.fn.keeper).accounts) l.line.items l.left l.name-iterator
