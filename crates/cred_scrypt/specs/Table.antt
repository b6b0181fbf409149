-- The table that ROMix's body keeps. No public contract speaks of it.
use Rattle.std.specs.Prelude.{◌≡◌, ℕ, ◌*◌, ◌<◌, List, length, take, drop}
use Rattle.cred_scrypt.specs.Mixing.{mixes}

-- row i of a table whose rows have 2r blocks
abbrev pub row_at : ℕ → List ℕ → ℕ → List ℕ
row_at r table i = take (32 * r) (drop (32 * r * i) table)

-- the table has n rows, and row i is i BlockMixes of b
pub record IsTable (r : ℕ) (b table : List ℕ) (n : ℕ) : Type 0 where
  pub size : length table ≡ 32 * r * n
  pub row : (i : ℕ) → i < n → row_at r table i ≡ mixes r b i
