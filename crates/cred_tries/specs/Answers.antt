-- The limit that answers to tries keep, and the counts of them in a limiter: each try begins and
-- ends as it is answered.
use Rattle.std.specs.Prelude.{◌≡◌, ◌⊎◌, ⊤, ℕ, ◌<◌, ◌≤◌, List, [], ◌∷◌, All, Option, Some, None}
use Rattle.cred_tries.specs.Clocks.{after_reading, end_of_time, new_clock}
use Rattle.cred_tries.specs.Counts.{longest_wait, most_tries}
use Rattle.cred_tries.specs.Histories.{Event, Begun, Sent, Right, Wrong, Unjudged, Forgiven, HasWaited, failures}
use Rattle.cred_tries.specs.Limits.{Limits, count_at}
use Rattle.cred_tries.specs.Steps.{Step, events_at, limits_after}
use Rattle.cred_tries.specs.Stretches.{FailsSeldom, IsEarly, judgements}
use Rattle.cred_tries.specs.declared.clock.SteadyClock.{SteadyClock}

-- what an answer tells, if anything, before which this was told; the latest comes first
abbrev pub with_told : Option Event → List Event → List Event
with_told None before = before
with_told (Some event) before = event ∷ before

-- ---- what is asked of the events at a name

-- A try has to wait for so many seconds, and for no more than the longest wait: as many failures
-- count as the limit says, and the wait after the last of them is over then, and not before.
abbrev pub MustWait : ℕ → ℕ → ℕ → List Event → Type 0
MustWait limit t seconds before =
    (0 < seconds) × (seconds ≤ longest_wait) × IsEarly limit t seconds before

-- Each password that is told right or wrong is told when no wait is left. Each try that is sent away
-- is sent away in a wait, and told the seconds that are left of it.
abbrev pub AreInTurn : ℕ → List Event → Type 0
AreInTurn limit [] = ⊤
AreInTurn limit (Right t ∷ before) =
    (limit ≤ failures t before → HasWaited limit t before) × AreInTurn limit before
AreInTurn limit (Wrong t ∷ before) =
    (limit ≤ failures t before → HasWaited limit t before) × AreInTurn limit before
AreInTurn limit (Sent t seconds ∷ before) =
    MustWait limit t seconds before × AreInTurn limit before
AreInTurn limit (Forgiven t ∷ before) = AreInTurn limit before
AreInTurn limit (Begun t ∷ before) = AreInTurn limit before
AreInTurn limit (Unjudged t ∷ before) = AreInTurn limit before

-- none comes before the one before it
abbrev pub Ascend : List ℕ → Type 0
Ascend [] = ⊤
Ascend (t ∷ later) = All (λ u. t ≤ u) later × Ascend later

-- Answers at these moments, of which the last is this one at most, keep a limit: they tell this at
-- each name.
pub record KeepLimit (limit passed : ℕ) (times : List ℕ) (told : List ℕ → List Event) : Type 0 where
  pub ascend : Ascend times
  pub until : All (λ t. t ≤ passed) times
  pub in_turn : (name : List ℕ) → AreInTurn limit (told name)
  pub seldom : (name : List ℕ) → FailsSeldom limit (judgements (told name))

-- ---- the clock

-- the clock of a limiter, or one that is never read
abbrev pub clock_of : Option Limits → SteadyClock
clock_of None = new_clock
clock_of (Some limits) = limits.clock

-- the clock was read at this reading, or not at all
abbrev pub IsReadBy : ℕ → Option Limits → Option Limits → Type 0
IsReadBy now old new = (clock_of new ≡ clock_of old)
    ⊎ (clock_of new ≡ after_reading (clock_of old) now)

-- ---- what a limiter counts

-- no try runs
abbrev pub IsIdle : Limits → Type 0
IsIdle limits = (name : List ℕ) → (count_at limits name).running ≡ 0

-- the limiter has a limit, and its time can pass
abbrev pub IsSettled : Limits → Type 0
IsSettled limits = (0 < limits.limit) × (limits.clock.passed ≤ end_of_time)

-- The limiter has counted what answers at these moments tell at each name: as steps of its own,
-- which tell the same.
pub record HasCounted (limit : ℕ) (limits : Limits) (times : List ℕ) (told : List ℕ → List Event)
    : Type 0 where
  pub some : 0 < limit
  pub few : limit ≤ most_tries
  pub steps : List Step
  pub limits_are : limits ≡ limits_after limit steps
  pub told_are :
      (name : List ℕ) → judgements (events_at limit name steps) ≡ judgements (told name)
  pub in_turn : (name : List ℕ) → AreInTurn limit (told name)
  pub ascend : Ascend times
  pub until : All (λ t. t ≤ limits.clock.passed) times
