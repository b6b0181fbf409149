use Rattle.std.specs.FinMap as map
use Rattle.cred_many.proofs.Listed.{Goes}
use Rattle.cred_many.proofs.listing.push_names.Given as goal

-- what is left is still to be written
abbrev pub invariant-loop-name : goal.invariant-loop-name
invariant-loop-name l = Goes l.fn.from l.fn.line.items l.fn.most (map.entries l.fn.accounts) l.line.items l.left l.name-iterator
