use Rattle.std.proofs.Common.{◌≢◌, ◌<◌, ℕ, Some, slice_get}
use Rattle.cred_many.specs.Scribe.{numbers}
use Rattle.cred_many.proofs.open.OpenLines.place_of.Given as goal

-- none of the lines so far has the number
abbrev pub invariant-loop-i : goal.invariant-loop-i
invariant-loop-i l = (k : ℕ) → k < l.i → slice_get (numbers l.fn.self) k ≢ Some l.fn.number
