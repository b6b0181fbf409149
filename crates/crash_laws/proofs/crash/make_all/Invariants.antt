use Rattle.std.proofs.Common.{◌≡◌, ◌≤◌, ◌+◌, length}
use Rattle.std.specs.Vec.{vec_capacity, vec_len}
use Rattle.std.specs.Vec.Iter.{into_iter_len}
use Rattle.crash_laws.specs.Crashes.{AreMade, asked_of}
use Rattle.crash_laws.proofs.crash.make_all.Given as goal

-- those so far are made as their answers tell, and there is room for the other answers
abbrev pub invariant-loop-change : goal.invariant-loop-change
invariant-loop-change g l = record {
  made : AreMade g.S.Store l.fn.book l.book (asked_of l.answers.items l.yielded);
  same : length l.answers.items ≡ length l.yielded;
  room : vec_len l.answers + into_iter_len l.change-iterator ≤ vec_capacity l.answers;
}
