use Rattle.std.proofs.Common.{◌≡◌, ◌*◌, take}
use Rattle.cred_scrypt.specs.{Diagonals.block_of, Mixing.chain, Mixing.every_second}
use Rattle.cred_scrypt.proofs.blockmix.block_mix.Given as goal

abbrev pub invariant-pairs : goal.invariant-pairs
invariant-pairs l = record {
  chained : block_of l.x ≡ chain l.r l.from (2 * l.i);
  evens : take (16 * l.i) l.even ≡ every_second l.r l.from 0 l.i;
  odds : take (16 * l.i) l.odd ≡ every_second l.r l.from 1 l.i;
}
