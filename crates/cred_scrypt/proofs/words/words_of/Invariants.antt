use Rattle.std.proofs.Common.{◌≡◌}
use Rattle.cred_scrypt.specs.Scrypt.{words_of}
use Rattle.cred_scrypt.proofs.words.words_of.Given as goal

abbrev pub invariant-words : goal.invariant-words
invariant-words l = l.words.items ≡ words_of l.bytes l.i
