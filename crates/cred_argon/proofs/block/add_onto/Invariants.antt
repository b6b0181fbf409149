use Rattle.std.proofs.Common.{◌≡◌, ℕ, ◌<◌, ◌≤◌, length, slice_index, bit_xor}
use Rattle.cred_argon.proofs.block.add_onto.Given as goal

abbrev pub invariant-words : goal.invariant-words
invariant-words l =
    (length l.out.0 ≡ 128)
    × ((n : ℕ) → n < l.i → slice_index l.out.0 n ≡ bit_xor (slice_index l.initial.out.0 n) (slice_index l.x.0 n))
    × ((n : ℕ) → l.i ≤ n → slice_index l.out.0 n ≡ slice_index l.initial.out.0 n)
