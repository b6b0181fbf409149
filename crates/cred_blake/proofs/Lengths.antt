-- The lengths of the hashes.
use Rattle.std.proofs.Common.{◌≡◌, ℕ, ◌-◌, ◌/◌, ◌≤◌, List, ◌++◌, length, ap, arith}
use Rattle.std.proofs.lemmas.List.{length-take-le}
use Rattle.cred_blake.specs.Blake2b.{blake, block_count, compress, initial_state, key_block, state_after}
use Rattle.cred_blake.specs.Words.{bytes_of}
use Rattle.cred_blake.proofs.{Blocks.state_after_next, WordBytes.length-bytes_of}

-- the digest has as many bytes as were asked for
pub length-blake : (n : ℕ) (key m : List ℕ) → n ≤ 64 → length (blake n key m) ≡ n
unfolding blake compress
length-blake n key m fits =
    let d : List ℕ = key_block key ++ m in
    let h0 : List ℕ = initial_state n (length key) in
    let i : ℕ = (length d - 1) / 128 in
    let state : List ℕ = state_after h0 d (block_count d) in
    let eight : length state ≡ 8 = ap length (state_after_next h0 d i) in
    length-take-le n (bytes_of state) (omega (arith, length-bytes_of state))
