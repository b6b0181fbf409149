-- What a scribe has answered, from call to call.
use Rattle.std.specs.Prelude.{◌≡◌, ◌⊎◌, ℕ, suc, List, ◌++◌, IfSome, Option, length}
use Rattle.cred_admin.specs.Marked.{MarkedBook}
use Rattle.cred_many.specs.{LineOperations.Entry, Service.Service, Transcript.Written, declared.fault.ServiceFault.ServiceFault, declared.open.Open.Open}
use Rattle.cred_many.specs.Scribe.{AddsOne, AddsSome, HasAnswered, IsCountedAt, IsNotSentAway, passed_of}
use Rattle.cred_many.specs.Served.{told_at}
use Rattle.cred_tries.specs.{Answers.KeepLimit, Limits.Limits}

-- what a scribe has between two calls
pub record State : Type 0 where
  pub written : Written
  pub book : MarkedBook
  pub fault : Option ServiceFault
  pub open_lines : List Open
  pub came : ℕ
  pub limits : Option Limits

-- the scribe has answered these lines at these moments
abbrev pub answered_in : ℕ → Service → State → List Entry → List ℕ → Type 0
answered_in capacity s m =
    HasAnswered capacity s m.written m.book m.fault m.open_lines m.came m.limits

-- A call adds at most one line, which counts at the call's reading of the clock, or several lines,
-- none of which is sent away.
abbrev pub IsCall : ℕ → Service → State → State → Type 0
IsCall capacity s old new =
    ((now : ℕ) × AddsOne (IsCountedAt now old.limits new.limits old.book) (passed_of new.limits)
    (answered_in capacity s old) (answered_in capacity s new))
    ⊎ AddsSome IsNotSentAway (passed_of new.limits) (answered_in capacity s old)
    (answered_in capacity s new)

-- each state is what a call left of the state before
abbrev pub AreCalls : ℕ → Service → (ℕ → State) → Type 0
AreCalls capacity s states = (n : ℕ) → IsCall capacity s (states n) (states (suc n))

-- the scribe has still answered these lines at these moments, and perhaps more lines behind them
abbrev pub StandsBehind : ℕ → Service → List Entry → List ℕ → State → Type 0
StandsBehind capacity s list times m = ∥ ((more : List Entry) × (later : List ℕ)
    × (length later ≡ length more) × answered_in capacity s m (list ++ more) (times ++ later)) ∥₁

-- the answers to these lines at these moments keep the limit, if there is one
abbrev pub KeepsLimit : ℕ → Service → State → List Entry → List ℕ → Type 0
KeepsLimit capacity s m list times = IfSome s.tries
    (λ limit. KeepLimit limit (passed_of m.limits) times (told_at capacity s.opening list times))
