use Rattle.std.proofs.Common.{◌≡◌, List, ℕ, ◌++◌, length}
use Rattle.std.specs.Io.KnownBytes.{Appends}
use Rattle.cred_cli.proofs.answer.write_whole.Given as goal

-- what is written and what is left are the bytes
abbrev pub invariant-loop-rest : goal.invariant-loop-rest
invariant-loop-rest g l =
    (front : List ℕ) × (l.bytes ≡ front ++ l.rest) × Appends (g.W.Write.contents l.fn.writer.inner) (g.W.Write.contents l.writer.inner) front
    × (l.writer.past.taken ≡ l.fn.writer.past.taken ++ front) × (l.writer.past.name ≡ l.fn.writer.past.name)

abbrev pub decreases-loop-rest : goal.decreases-loop-rest
decreases-loop-rest g l = length l.rest
