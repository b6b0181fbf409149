use Rattle.std.proofs.Common.{◌≡◌, ◌≤◌, length}
use Rattle.std.specs.Io.KnownBytes.{Consumes}
use Rattle.cred_cli.specs.Watched.{Basis, ended_of, failed_of, left_on}
use Rattle.cred_admin.specs.Seen.{FitsSince}
use Rattle.cred_admin.proofs.import.read_all.Given as goal

-- what came is kept, and each call gave a byte at least
abbrev pub invariant-loop-call : goal.invariant-loop-call
invariant-loop-call g l = record {
  text : (basis : Basis) → FitsSince basis l.fn.reader l.reader → Consumes (left_on basis g.R.Read.remaining l.fn.reader) (left_on basis g.R.Read.remaining l.reader) l.text.items;
  goes_on : ended_of l.reader ≡ ended_of l.fn.reader;
  kept : failed_of l.reader ≡ failed_of l.fn.reader;
  calls : l._call ≤ length l.text.items;
  size : length l.chunk ≡ 65536;
}
