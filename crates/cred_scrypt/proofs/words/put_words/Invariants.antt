use Rattle.std.proofs.Common.{◌≡◌, ◌++◌, take}
use Rattle.cred_scrypt.specs.Scrypt.{bytes_of}
use Rattle.cred_scrypt.proofs.words.put_words.Given as goal

abbrev pub invariant-words : goal.invariant-words
invariant-words l = l.bytes.items ≡ l.initial.bytes.items ++ bytes_of (take l.word-index l.words)
