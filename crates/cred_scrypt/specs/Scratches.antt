-- A table that is kept from key to key.
use Rattle.std.specs.Prelude.{◌≡◌, ℕ, ◌*◌, ◌≤◌, List, replicate}

-- the table has room for at most `most` KiB, and zeros in its whole room
pub record IsScratch (most : ℕ) (table : List ℕ) (room : ℕ) : Type 0 where
  pub bound : room ≤ 256 * most
  pub wiped : table ≡ replicate room 0
