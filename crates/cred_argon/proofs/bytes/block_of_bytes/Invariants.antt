use Rattle.std.proofs.Common.{◌≡◌, ℕ, ◌*◌, ◌<◌, length, slice_index}
use Rattle.cred_blake.specs.Words.{word_at}
use Rattle.cred_argon.proofs.bytes.block_of_bytes.Given as goal

abbrev pub invariant-words : goal.invariant-words
invariant-words l = (length l.words ≡ 128) × ((k : ℕ) → k < l.i → slice_index l.words k ≡ word_at l.bytes (8 * k))
