use Rattle.std.proofs.Common.{bit_xor}
use Rattle.cred_scrypt.proofs.Pointwise.{IsZippedTo}
use Rattle.cred_scrypt.proofs.xor.xor_bytes.Given as goal

abbrev pub invariant-bytes : goal.invariant-bytes
invariant-bytes l = IsZippedTo bit_xor l.initial.into l.with l.into l.i
