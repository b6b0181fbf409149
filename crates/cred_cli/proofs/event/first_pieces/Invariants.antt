use Rattle.std.proofs.Common.{◌≡◌, ◌++◌, length, map}
use Rattle.cred_phc.specs.Pieces.{pieces}
use Rattle.cred_cli.proofs.event.first_pieces.Given as goal

-- the pieces that were taken, and those that are left
abbrev pub invariant-loop-i : goal.invariant-loop-i
invariant-loop-i l = record {
  cut : pieces 32 l.fn.line ≡ map (λ s. s.now) l.first.items ++ l.rest;
  count : length l.first.items ≡ l._i;
}
