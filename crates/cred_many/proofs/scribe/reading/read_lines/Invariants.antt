use Rattle.std.proofs.Common.{◌≡◌, List, ℕ, Some, false, length}
use Rattle.cred_many.specs.Reading.{Splits, place}
use Rattle.cred_many.proofs.scribe.reading.read_lines.Given as goal

-- a front of the input came, and each whole line of it was handed out
abbrev pub invariant-loop-call : goal.invariant-loop-call
invariant-loop-call g l = record {
  at : (all : List ℕ) → g.J.ServiceId.service.input ≡ Some all →
      (rest : List ℕ) × (g.S.Source.remaining l.source ≡ Some rest) × Splits all (place l.decoder.start l.decoder.number) rest;
  handed : l.sender.handed ≡ g.S.Source.given l.source;
  number : l.decoder.number ≡ l.sender.handed;
  going : (g.S.Source.ended l.source ≡ false) × (g.S.Source.failed l.source ≡ false);
  channel : l.sender.book.end ≡ l.fn.sender.book.end;
  size : length l.buffer ≡ 4096;
}
