use Rattle.std.proofs.Common.{ℕ, ◌<◌, ◌≡◌, ◌≤◌, length, slice_index_or}
use Rattle.cred_pool.proofs.part.work_run.Given as goal

-- the parts before i are worked, and the others are as they were
abbrev pub invariant-parts : goal.invariant-parts
invariant-parts g l =
    (l.i-end ≡ length l.fn.run) × (length l.run ≡ length l.fn.run)
    × ((j : ℕ) (d : _) → j < l.i
    → g.P.Part.works l.shared (slice_index_or l.fn.run j d) (slice_index_or l.run j d))
    × ((j : ℕ) (d : _) → l.i ≤ j → slice_index_or l.run j d ≡ slice_index_or l.fn.run j d)
