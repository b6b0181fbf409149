use Rattle.std.proofs.Common.{◌≡◌, length}
use Rattle.cred_admin.proofs.Reading.{LineSoFar}
use Rattle.cred_admin.specs.Seen.{FitsSince, GivesMore}
use Rattle.cred_cli.specs.Watched.{Basis, ended_of, failed_of, left_on}
use Rattle.cred_admin.proofs.password.read_password.Given as goal

-- the line goes on with what is left
abbrev pub invariant-loop-taken : goal.invariant-loop-taken
invariant-loop-taken g l = record {
  line : (basis : Basis) → FitsSince basis l.fn.reader l.reader → LineSoFar (left_on basis g.R.Read.remaining l.fn.reader) (left_on basis g.R.Read.remaining l.reader) l.line.items;
  goes_on : ended_of l.reader ≡ ended_of l.fn.reader;
  given : GivesMore l.fn.reader l.reader;
  kept : failed_of l.reader ≡ failed_of l.fn.reader;
  count : length l.line.items ≡ l.taken;
}
