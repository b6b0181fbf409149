use Rattle.std.proofs.Common.{◌≡◌, ◌-◌, ◌*◌, length, take}
use Rattle.cred_blake.specs.HashPrime.{chain, halves}
use Rattle.cred_blake.proofs.variable_length.write_hash_prime.Given as goal

abbrev pub invariant-loop-i : goal.invariant-loop-i
invariant-loop-i l = (length l.out ≡ length l.fn.out) × (length l.v ≡ 64) × (l.v ≡ chain (length l.fn.out) l.input (l.i - 1))
    × (take (32 * l.i) l.out ≡ halves (length l.fn.out) l.input l.i)
