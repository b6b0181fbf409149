use Rattle.std.proofs.Common.{◌≡◌, ◌≤◌, length}
use Rattle.cred_tries.specs.{Counts.most_tries, Limits.waits_among}
use Rattle.cred_tries.proofs.waiting.WaitsIterator.next.Given as goal

-- the waits among the names that are left are those that were left
abbrev pub invariant-loop-name : goal.invariant-loop-name
invariant-loop-name l =
    (waits_among l.limit l.moment l.self-inside.counts ≡ l.fn.self)
    × (l.self-inside.limit ≡ l.limit) × (l.self-inside.moment ≡ l.moment) × (l.limit ≤ most_tries)

abbrev pub decreases-loop-name : goal.decreases-loop-name
decreases-loop-name l = length l.self-inside.counts
