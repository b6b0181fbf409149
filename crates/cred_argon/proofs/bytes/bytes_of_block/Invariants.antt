use Rattle.std.proofs.Common.{◌≡◌, ◌*◌, length, take}
use Rattle.cred_blake.specs.Words.{bytes_of}
use Rattle.cred_argon.proofs.bytes.bytes_of_block.Given as goal

abbrev pub invariant-words : goal.invariant-words
invariant-words l = (length l.bytes ≡ 1024) × (take (8 * l.i) l.bytes ≡ bytes_of (take l.i l.block.0))
