use Rattle.std.proofs.Common.{List, drop}
use Rattle.cred_many.specs.{declared.open.Open.Open, Scribe.AreClosed, Scribe.entries_of}
use Rattle.cred_many.proofs.open.OpenLines.without.Given as goal

-- what is left once the others are closed is what is left once all are
abbrev pub invariant-loop-work : goal.invariant-loop-work
invariant-loop-work g l = (final : List Open) → AreClosed (entries_of (drop l.work-index l.works)) l.left final → AreClosed (entries_of l.works) l.fn.self final
