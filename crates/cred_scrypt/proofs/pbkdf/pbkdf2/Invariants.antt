use Rattle.std.proofs.Common.{◌≡◌, ◌*◌, length, take}
use Rattle.cred_scrypt.specs.Pbkdf2.{derived_blocks}
use Rattle.cred_scrypt.proofs.pbkdf.pbkdf2.Given as goal

abbrev pub invariant-macs : goal.invariant-macs
invariant-macs l = record {
  made : l.key.items ≡ take l.len (derived_blocks l.pw l.salt l.c l.i);
  long : length (derived_blocks l.pw l.salt l.c l.i) ≡ 32 * l.i;
}
