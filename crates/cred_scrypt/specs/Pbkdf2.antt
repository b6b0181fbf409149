-- PBKDF2 with HMAC-SHA-256 (RFC 8018, section 5.2) as a function on lists of bytes.
use Rattle.std.specs.Prelude.{ℕ, zero, suc, ◌+◌, ◌-◌, ◌/◌, List, [], ◌++◌, take}
use Rattle.std.specs.Int.{w32, to_be_bytes}
use Rattle.cred_scrypt.specs.{Hmac.hmac, Xor.xor_all}

-- U_(n + 1) of block i
unfoldable pub iteration : List ℕ → List ℕ → ℕ → ℕ → List ℕ
iteration pw salt i zero = hmac pw (salt ++ to_be_bytes w32 i)
iteration pw salt i (suc n) = hmac pw (iteration pw salt i n)

-- U_1 ^ .. ^ U_(n + 1) of block i
unfoldable pub xor_of_iterations : List ℕ → List ℕ → ℕ → ℕ → List ℕ
xor_of_iterations pw salt i zero = iteration pw salt i 0
xor_of_iterations pw salt i (suc n) =
    xor_all (xor_of_iterations pw salt i n) (iteration pw salt i (suc n))

-- T_1 || .. || T_n, each of c iterations
unfoldable pub derived_blocks : List ℕ → List ℕ → ℕ → ℕ → List ℕ
derived_blocks pw salt c zero = []
derived_blocks pw salt c (suc n) =
    derived_blocks pw salt c n ++ xor_of_iterations pw salt (suc n) (c - 1)

-- PBKDF2: the first len bytes
unfoldable pub pbkdf2 : List ℕ → List ℕ → ℕ → ℕ → List ℕ
pbkdf2 pw salt c len = take len (derived_blocks pw salt c ((len + 31) / 32))
