use Rattle.std.proofs.Common.{◌≡◌, ◌≤◌, false, length, map, sum, take, vec_capacity}
use Rattle.cred_desk.proofs.tally.Tallies.written.Given as goal

-- what the sessions so far made, with room for the others
abbrev pub invariant-loop-session : goal.invariant-loop-session
invariant-loop-session g l =
    (l.counts.items ≡ map (λ s. s.count) (take l.session-index l.sessions))
    × (l.additions.items ≡ map (λ s. s.additions) (take l.session-index l.sessions))
    × (length l.sessions ≤ vec_capacity l.counts)
    × (length l.sessions ≤ vec_capacity l.additions)
    × (g.J.Naming.loads ≡ false → sum l.additions.items ≡ 0)
