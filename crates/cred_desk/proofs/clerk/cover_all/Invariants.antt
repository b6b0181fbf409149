use Rattle.std.proofs.Common.{ℕ, ◌≡◌, ◌<◌, get_or}
use mathlib.Core.List.{IsPrefix}
use Rattle.cred_desk.proofs.clerk.cover_all.Given as goal

-- the sessions so far know no more than the list
abbrev pub invariant-loop-session : goal.invariant-loop-session
invariant-loop-session g l = (l.publisher ≡ l.initial.publisher) × ((k : ℕ) (s : _) → k < l.session-index → IsPrefix (get_or l.sessions k s).known l.publisher)
