use Rattle.std.proofs.Common.{◌≡◌, ◌+◌, map, sum, vec_len}
use Rattle.cred_desk.proofs.tally.Counting.missing.Given as goal

-- what was merged, with what is left, is all
abbrev pub invariant-loop-session : goal.invariant-loop-session
invariant-loop-session g l =
    (l.made ≡ l.all.amount)
    × (l.total.total ≡ l.entries)
    × (l.all.parts + vec_len l.left ≡ vec_len l.fn.sessions)
    × (l.all.amount + (sum (map (λ s. s.count) l.left.items) + sum (map (λ s. s.additions) l.left.items))
    ≡ sum (map (λ s. s.count) l.fn.sessions.items) + sum (map (λ s. s.additions) l.fn.sessions.items))

abbrev pub decreases-loop-session : goal.decreases-loop-session
decreases-loop-session g l = goal.left-loop-session g l
