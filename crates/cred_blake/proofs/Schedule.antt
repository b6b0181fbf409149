-- Each entry of the message schedule names one of a block's sixteen words.
use Rattle.std.proofs.Common.{◌≡◌, ℕ, ◌+◌, ◌*◌, ◌/◌, ◌%◌, ◌<◌, [], true, nat_lt, slice_index, slice_index_or, refl, arith}
use Rattle.std.proofs.{lemmas.Bool.agree_below_at, lemmas.Bool.Decides.nat_tests}
use Rattle.cred_blake.specs.Blake2b.{schedule}

-- entry i of row r
abbrev pub entry : ℕ → ℕ → ℕ
entry r i = slice_index (slice_index_or schedule r []) i

pub entry_below : (r i : ℕ) → r < 10 → i < 16 → entry r i < 16
entry_below r i row place =
    let computed = agree_below_at (λ k. nat_lt (entry (k / 16) (k % 16)) 16) (λ _. true) 160 (16 * r + i) refl (omega arith) in
    let same_row : (16 * r + i) / 16 ≡ r = omega arith in
    let same_place : (16 * r + i) % 16 ≡ i = omega arith in
    let test : nat_lt (entry r i) 16 ≡ true = rw (same_row, same_place) at computed in
    grind (arith, nat_tests)
