-- The last blocks of the lanes, one lane after the other.
use Rattle.std.proofs.Common.{◌≡◌, ℕ, suc, ◌<◌, ◌+◌, ◌-◌, ◌*◌, ◌/◌, ◌%◌, List, ap, ap₂, arith}
use Rattle.cred_argon.specs.{Parameters.Parameters, Parameters.segment_len, Compress.xor_words, Places.place, Cells.cell, Argon.last_blocks}

pub last_blocks_next : (a : Parameters) (h : List ℕ) (n : ℕ)
    → xor_words (last_blocks a h n) (cell a h (place (a.passes - 1) n (4 * segment_len a - 1))) ≡ last_blocks a h (n + 1)
unfolding last_blocks
last_blocks_next a h n = let next : suc n ≡ n + 1 = omega arith in ap (λ (k : ℕ). last_blocks a h k) next

-- the last block of a lane's last segment
pub last_place : (t s l : ℕ) → 0 < t → 0 < s → place ((4 * t - 1) / 4) l ((4 * t - 1) % 4 * s + (s - 1)) ≡ place (t - 1) l (4 * s - 1)
last_place t s l some inside =
    let slice : (4 * t - 1) % 4 ≡ 3 = omega (arith, some) in
    ap₂ (λ x y. place x l y) (omega (arith, some)) (rw slice (omega (arith, inside)))
