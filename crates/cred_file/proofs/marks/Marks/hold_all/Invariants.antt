use Rattle.std.proofs.Common.{◌≡◌}
use Rattle.cred_file.specs.Cells.{mark_at}
use Rattle.cred_file.proofs.Marked.{AreHeld}
use Rattle.cred_file.proofs.marks.Marks.hold_all.Given as goal

abbrev pub invariant-loop-name : goal.invariant-loop-name
invariant-loop-name l = (mark_at l.self ≡ mark_at l.fn.self) × AreHeld l.self l.fn.given l.name-iterator
