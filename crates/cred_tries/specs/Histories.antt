-- The events at one name, in order, and what a limit asks of them.
use Rattle.std.specs.Prelude.{◌≡◌, ◌⊎◌, ◌≤◌, ◌<◌, ⊤, ℕ, ◌+◌, ◌-◌, nat_le, nat_lt, if◌then◌else◌, List, [], ◌∷◌}
use Rattle.cred_tries.specs.Counts.{count_begun, count_ended, count_forgiven, day, nothing, place_of, wait}
use Rattle.cred_tries.specs.declared.count.Count.{Count}
use Rattle.cred_tries.specs.declared.count.Place.{Place}
use Rattle.cred_tries.specs.declared.count.Place.TheVariants.{Free, Taken, Early}
use Rattle.cred_tries.specs.declared.turn.Ending.{Ending}
use Rattle.cred_tries.specs.declared.turn.Ending.TheVariants as ending

-- the events, each at a moment in seconds
pub data Event : Type 0 where
  -- a try begins, or is sent away and told how many seconds it is too early, or 0 if it isn't
  Begun : ℕ → Event
  Sent : ℕ → ℕ → Event
  -- a try ends: the password was right, or wrong, or wasn't judged
  Right : ℕ → Event
  Wrong : ℕ → Event
  Unjudged : ℕ → Event
  -- the failures are forgiven
  Forgiven : ℕ → Event

-- a history has its latest event first

-- the tries that run: they began and haven't ended
abbrev pub running : List Event → ℕ
running [] = 0
running (Begun t ∷ before) = running before + 1
running (Right t ∷ before) = running before - 1
running (Wrong t ∷ before) = running before - 1
running (Unjudged t ∷ before) = running before - 1
running (Sent t seconds ∷ before) = running before
running (Forgiven t ∷ before) = running before

-- the failures in a row at a moment: those after the last right answer, the last forgiving, and the
-- last day without a failure
abbrev pub failures : ℕ → List Event → ℕ
failures now [] = 0
failures now (Wrong t ∷ before) = if nat_le (t + day) now then 0 else failures t before + 1
failures now (Right t ∷ before) = 0
failures now (Forgiven t ∷ before) = 0
failures now (Begun t ∷ before) = failures now before
failures now (Unjudged t ∷ before) = failures now before
failures now (Sent t seconds ∷ before) = failures now before

-- the moment of the last failure after the last right answer and the last forgiving
abbrev pub last_failure : List Event → ℕ
last_failure [] = 0
last_failure (Wrong t ∷ before) = t
last_failure (Right t ∷ before) = 0
last_failure (Forgiven t ∷ before) = 0
last_failure (Begun t ∷ before) = last_failure before
last_failure (Unjudged t ∷ before) = last_failure before
last_failure (Sent t seconds ∷ before) = last_failure before

-- the wait after the last failure is over
abbrev pub HasWaited : ℕ → ℕ → List Event → Type 0
HasWaited limit now before = last_failure before + wait (failures now before - limit) ≤ now

-- The failures in a row and the tries that run are together fewer than the limit. Or none runs, and
-- the wait is over.
abbrev pub MayBegin : ℕ → ℕ → List Event → Type 0
MayBegin limit now before =
    (failures now before + running before < limit)
    ⊎ ((running before ≡ 0) × HasWaited limit now before)

-- the condition under which the events before an event allow it
abbrev pub IsRightAfter : ℕ → Event → List Event → Type 0
IsRightAfter limit (Begun t) before = MayBegin limit t before
IsRightAfter limit (Sent t seconds) before = MayBegin limit t before → ⊥
IsRightAfter limit (Right t) before = 0 < running before
IsRightAfter limit (Wrong t) before =
    (0 < running before)
    × (last_failure before ≤ t)
    × (limit ≤ failures t before → HasWaited limit t before)
IsRightAfter limit (Unjudged t) before = 0 < running before
IsRightAfter limit (Forgiven t) before = ⊤

-- the events before each event allow it
abbrev pub IsLimited : ℕ → List Event → Type 0
IsLimited limit [] = ⊤
IsLimited limit (event ∷ before) = IsRightAfter limit event before × IsLimited limit before

-- ---- what comes of the calls at one name, the latest first

pub data Call : Type 0 where
  Begin : ℕ → Call
  End : ℕ → Ending → Call
  Forgive : ℕ → Call

abbrev pub time_of : Call → ℕ
time_of (Begin t) = t
time_of (End t how) = t
time_of (Forgive t) = t

abbrev pub begun_if : Count → Place → Count
begun_if count Free = count_begun count
begun_if count _ = count

abbrev pub count_after_call : ℕ → Count → Call → Count
count_after_call limit count (Begin t) = begun_if count (place_of limit count t)
count_after_call limit count (End t how) = count_ended limit count t how
count_after_call limit count (Forgive t) = count_forgiven count

abbrev pub count_after : ℕ → List Call → Count
count_after limit [] = nothing
count_after limit (call ∷ before) = count_after_call limit (count_after limit before) call

abbrev pub begin_event : Place → ℕ → Event
begin_event Free t = Begun t
begin_event Taken t = Sent t 0
begin_event (Early seconds) t = Sent t seconds

abbrev pub end_event : Ending → ℕ → Event
end_event ending.Right t = Right t
end_event ending.Wrong t = Wrong t
end_event ending.Unjudged t = Unjudged t

-- an end is an event only if a try runs, since only a try that began at the name can end there
abbrev pub with_event : ℕ → Count → Call → List Event → List Event
with_event limit count (Begin t) before = begin_event (place_of limit count t) t ∷ before
with_event limit count (End t how) before =
    if nat_lt 0 count.running then end_event how t ∷ before else before
with_event limit count (Forgive t) before = Forgiven t ∷ before

abbrev pub history : ℕ → List Call → List Event
history limit [] = []
history limit (call ∷ before) =
    with_event limit (count_after limit before) call (history limit before)
