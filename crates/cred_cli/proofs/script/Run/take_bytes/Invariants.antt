use Rattle.std.proofs.Common.{◌≡◌, ◌+◌, Ok, take}
use Rattle.cred_cli.specs.{Feeding.Takes, Feeding.standing, Watched.Basis, Watched.IsWritten, Watched.held_on}
use Rattle.cred_cli.proofs.script.Run.take_bytes.Given as goal

-- the first bytes are taken
abbrev pub invariant-loop-byte : goal.invariant-loop-byte
invariant-loop-byte g l = record {
  fed : (basis : Basis) → Takes g.K.Keeper.capacity (take l.byte-index l.bytes) (standing (held_on basis g.W.Write.contents l.fn.writer) (g.K.Keeper.book l.fn.keeper) l.fn.self)
      (standing (held_on basis g.W.Write.contents l.writer) (g.K.Keeper.book l.keeper) l.self) (Ok tt);
  written : IsWritten g.W.Write.contents l.fn.writer l.writer;
  taken : l.self.progress.taken ≡ l.fn.self.progress.taken + l.byte-index;
}
