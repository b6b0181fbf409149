use Rattle.std.proofs.Common.{◌≡◌, ◌*◌, ◌^◌, length, List, ℕ}
use Rattle.cred_scrypt.specs.{Mixing.mixes, Mixing.second_loop, Table.IsTable}
use Rattle.cred_scrypt.proofs.romix.walk.Given as goal

abbrev pub invariant-steps : goal.invariant-steps
invariant-steps l = record {
  mixed : (b : List ℕ) → IsTable l.r b l.table (2 ^ l.ln) → l.initial.x.items ≡ mixes l.r b (2 ^ l.ln)
      → l.x.items ≡ second_loop l.r (2 ^ l.ln) b l._step;
  size : length l.x.items ≡ 32 * l.r;
  same : length l.y.items ≡ 32 * l.r;
}
