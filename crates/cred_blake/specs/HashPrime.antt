-- H', the hash of any length that Argon2 uses (RFC 9106, section 3.3), as a function on lists of
-- bytes.
use Rattle.std.specs.Prelude.{ℕ, zero, suc, ◌+◌, ◌-◌, ◌*◌, ◌/◌, nat_le, if◌then◌else◌, List, [], ◌++◌, take}
use Rattle.std.specs.Int.{w32, to_le_bytes}
use Rattle.cred_blake.specs.Blake2b.{blake}

-- the standard's V (i + 1): V 1 is the hash of the length t and the input a, and each other the
-- hash of the one before
unfoldable pub chain : ℕ → List ℕ → ℕ → List ℕ
chain t a zero = blake 64 [] (to_le_bytes w32 t ++ a)
chain t a (suc i) = blake 64 [] (chain t a i)

-- the first halves of V 1, …, V r
unfoldable pub halves : ℕ → List ℕ → ℕ → List ℕ
halves t a zero = []
halves t a (suc r) = halves t a r ++ take 32 (chain t a r)

-- H' of a to t bytes, t at least 1 and below 2 ^ 32: one hash up to 64 bytes, and above r first
-- halves, r = ⌈t / 32⌉ - 2, and a last hash of what is left
unfoldable pub hash_prime : ℕ → List ℕ → List ℕ
hash_prime t a =
    if nat_le t 64 then blake t [] (to_le_bytes w32 t ++ a)
    else
    let r = (t + 31) / 32 - 2 in
    halves t a r ++ blake (t - 32 * r) [] (chain t a (r - 1))
