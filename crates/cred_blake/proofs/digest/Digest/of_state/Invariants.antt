use Rattle.std.proofs.Common.{◌≡◌, ◌*◌, length, take}
use Rattle.cred_blake.specs.Words.{bytes_of}
use Rattle.cred_blake.proofs.digest.Digest.of_state.Given as goal

abbrev pub invariant-loop-i : goal.invariant-loop-i
invariant-loop-i l = (length l.bytes ≡ 64) × (take (8 * l.i) l.bytes ≡ bytes_of (take l.i l.h))
