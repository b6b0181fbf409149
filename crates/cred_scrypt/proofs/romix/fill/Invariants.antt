use Rattle.std.proofs.Common.{◌≡◌, ◌≤◌, ◌*◌, length, vec_capacity}
use Rattle.cred_scrypt.specs.{Mixing.mixes, Table.IsTable}
use Rattle.cred_scrypt.proofs.romix.fill.Given as goal

abbrev pub invariant-rows : goal.invariant-rows
invariant-rows l = record {
  table : IsTable l.r l.initial.x.items l.table.items l._row;
  room : 32 * l.r * l.n ≤ vec_capacity l.table;
  mixed : l.x.items ≡ mixes l.r l.initial.x.items l._row;
  size : length l.x.items ≡ 32 * l.r;
  same : length l.y.items ≡ 32 * l.r;
}
