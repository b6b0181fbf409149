use Rattle.std.proofs.Common.{◌≡◌, ◌≤◌, false, [], length, Some}
use Rattle.cred_cli.specs.{Feeding.IsAt, Feeding.standing, Script.ScriptStart, Watched.Basis, Watched.Fits, Watched.GivesAsContracted, Watched.IsLogged, Watched.IsWritten, Watched.held_on, Watched.left_on, Watched.log_on}
use Rattle.cred_cli.proofs.Prompts.{IsReadTo}
use Rattle.cred_cli.proofs.script.Run.read_all.Given as goal

-- each call but the last gave a byte at least
abbrev pub invariant-loop-call : goal.invariant-loop-call
invariant-loop-call g l = record {
  at : (basis : Basis) → Fits basis l.reader → (script : ScriptStart) → left_on basis g.R.Read.remaining l.fn.reader ≡ Some script.bytes →
      IsAt g.K.Keeper.capacity script [] (standing (held_on basis g.W.Write.contents l.fn.writer) (g.K.Keeper.book l.fn.keeper) l.fn.self) →
      IsReadTo g.K.Keeper.capacity script l.fn.writer.past.name (left_on basis g.R.Read.remaining l.reader) (standing (held_on basis g.W.Write.contents l.writer) (g.K.Keeper.book l.keeper) l.self)
      (log_on basis l.reader.past.calls);
  ended : l.reader.ended ≡ false;
  logged : IsLogged l.fn.reader l.reader;
  calls : l.reader.calls ≡ l._call;
  taken : l._call ≤ l.self.progress.taken;
  gives : GivesAsContracted g.R.Read.remaining l.fn.reader l.reader;
  written : IsWritten g.W.Write.contents l.fn.writer l.writer;
  size : length l.buffer ≡ 4096;
}
