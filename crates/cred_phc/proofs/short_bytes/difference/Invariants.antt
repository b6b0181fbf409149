use Rattle.std.proofs.Common.{◌≡◌, ◌↔◌, map, take}
use Rattle.cred_phc.proofs.short_bytes.difference.Given as goal

abbrev pub invariant-loop-i : goal.invariant-loop-i
invariant-loop-i g l = (g.S.SecretByte.value l.sum ≡ 0) ↔ (map g.S.SecretByte.value (take l.i l.these) ≡ map g.S.SecretByte.value (take l.i l.those))
