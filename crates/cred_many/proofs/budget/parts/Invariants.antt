use Rattle.std.proofs.Common.{◌≡◌, ◌+◌, ◌≤◌, vec_len, vec_capacity}
use Rattle.cred_many.proofs.budget.parts.Given as goal

-- a part for each thread that was counted
abbrev pub invariant-loop-thread : goal.invariant-loop-thread
invariant-loop-thread g l =
    (l.share.parts + l._thread ≡ l.threads) × (l.share.amount ≡ 0)
    × (vec_len l.idle ≡ l._thread) × (l.threads ≤ vec_capacity l.idle)
