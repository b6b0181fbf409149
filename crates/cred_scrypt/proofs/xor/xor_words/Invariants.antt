use Rattle.std.proofs.Common.{bit_xor}
use Rattle.cred_scrypt.proofs.Pointwise.{IsZippedTo}
use Rattle.cred_scrypt.proofs.xor.xor_words.Given as goal

abbrev pub invariant-words : goal.invariant-words
invariant-words l = IsZippedTo bit_xor l.initial.into l.with l.into l.i
