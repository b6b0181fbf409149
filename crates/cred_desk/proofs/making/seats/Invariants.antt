use Rattle.std.proofs.Common.{◌≡◌, ◌+◌, ◌≤◌, All, vec_len, vec_capacity}
use Rattle.cred_desk.specs.Standing.{IsNew}
use Rattle.cred_desk.proofs.making.seats.Given as goal

-- a session for each part so far
abbrev pub invariant-loop-index : goal.invariant-loop-index
invariant-loop-index g l =
    (l.spare.parts + l._index ≡ l.count)
    × (l.spare.amount ≡ 0)
    × (vec_len l.sessions ≡ l._index)
    × (l.count ≤ vec_capacity l.sessions)
    × All IsNew l.sessions.items
