-- Bytes with zeros after them.
use Rattle.std.specs.Prelude.{◌≡◌, ℕ, ◌-◌, ◌≤◌, List, ◌++◌, length, take, drop, replicate}
use Rattle.base64.specs.GeneralPurpose.{IsBytes}
use Rattle.std.proofs.Common.{arith, length-take-le, take-append-drop}

-- cap cells, of which the first n are used and the others are zero
pub record IsPadded (cap n : ℕ) (cells : List ℕ) : Type 0 where
  pub all : length cells ≡ cap
  pub used : n ≤ cap
  pub zeros : drop n cells ≡ replicate (cap - n) 0
  pub bytes : IsBytes cells

pub len_back : (cap n : ℕ) (cells : List ℕ) → IsPadded cap n cells → length (take n cells) ≡ n
len_back cap n cells h = length-take-le n cells (omega (arith, h.all, h.used))

pub cells_back : (cap n : ℕ) (cells : List ℕ) → IsPadded cap n cells
    → take n cells ++ replicate (cap - length (take n cells)) 0 ≡ cells
cells_back cap n cells h = rw (len_back cap n cells h, ← h.zeros) (take-append-drop n cells)
