-- The steps of a limiter at all names, and the calls of one name among them.
use Rattle.std.specs.Prelude.{◌≡◌, ℕ, List, [], ◌∷◌, Bool, if◌then◌else◌}
use Rattle.std.specs.Ordering.{eq_by_cmp}
use Rattle.cred_book.specs.Names.{name_cmp}
use Rattle.cred_tries.specs.Clocks.{after_reading, moment, new_clock}
use Rattle.cred_tries.specs.Histories.{Call, Begin, End, Forgive, Event, Begun, Sent, history}
use Rattle.cred_tries.specs.Limits.{Limits, after_end, begin_outcome, forgive_outcome, new_limits}
use Rattle.cred_tries.specs.declared.clock.SteadyClock.{SteadyClock}
use Rattle.cred_tries.specs.declared.turn.Ending.{Ending}
use Rattle.cred_tries.specs.declared.turn.Turn.{Turn}
use Rattle.cred_tries.specs.declared.turn.Turn.TheVariants as turn

-- At a name a try is asked for, or one ends, each at a reading of the clock, or the failures are
-- forgiven.
pub data Step : Type 0 where
  Asks : List ℕ → ℕ → Step
  Ends : List ℕ → ℕ → Ending → Step
  Forgives : List ℕ → Step

abbrev pub step_name : Step → List ℕ
step_name (Asks name now) = name
step_name (Ends name now how) = name
step_name (Forgives name) = name

abbrev pub after_step : Limits → Step → Limits
after_step limits (Asks name now) = (begin_outcome limits name now).1
after_step limits (Ends name now how) = after_end limits name now how
after_step limits (Forgives name) = (forgive_outcome limits name).1

-- a new limiter after steps, of which the latest is the first
abbrev pub limits_after : ℕ → List Step → Limits
limits_after limit [] = new_limits limit
limits_after limit (step ∷ before) = after_step (limits_after limit before) step

abbrev pub clock_after : List Step → SteadyClock
clock_after [] = new_clock
clock_after (Asks name now ∷ before) = after_reading (clock_after before) now
clock_after (Ends name now how ∷ before) = after_reading (clock_after before) now
clock_after (Forgives name ∷ before) = clock_after before

abbrev pub is_name_of : List ℕ → List ℕ → Bool
is_name_of name other = eq_by_cmp name_cmp name other

abbrev pub with_call_if : Bool → Call → List Call → List Call
with_call_if is_here call before = if is_here then call ∷ before else before

-- the calls at one name, each at its moment
abbrev pub calls_at : List ℕ → List Step → List Call
calls_at name [] = []
calls_at name (Asks other now ∷ before) =
    with_call_if (is_name_of name other) (Begin (moment (clock_after before) now))
    (calls_at name before)
calls_at name (Ends other now how ∷ before) =
    with_call_if (is_name_of name other) (End (moment (clock_after before) now) how)
    (calls_at name before)
calls_at name (Forgives other ∷ before) =
    with_call_if (is_name_of name other) (Forgive (clock_after before).passed)
    (calls_at name before)

-- the events at one name
abbrev pub events_at : ℕ → List ℕ → List Step → List Event
events_at limit name steps = history limit (calls_at name steps)

-- a try that `begin` returns has begun; any other is sent away, and told its wait
abbrev pub turn_event : Turn → ℕ → Event
turn_event (turn.Begun name) t = Begun t
turn_event turn.Waits t = Sent t 0
turn_event (turn.Later seconds) t = Sent t seconds

-- asked for a try at the name, the limiter answers what happens there
abbrev pub TellsTurn : ℕ → List ℕ → List Step → ℕ → Type 0
TellsTurn limit name steps now =
    events_at limit name (Asks name now ∷ steps)
    ≡ turn_event (begin_outcome (limits_after limit steps) name now).0
    (moment (clock_after steps) now) ∷ events_at limit name steps
