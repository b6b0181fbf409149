-- A limiter as contracts see it, and what its calls do.
use Rattle.std.specs.Prelude.{ℕ, ◌≡◌, ◌<◌, ◌≤◌, Bool, false, List, Option, Some, None, filter_map, refl}
use Rattle.std.specs.Coded.{Coded, code_by, coded×, coded_ℕ}
use Rattle.std.specs.FinMap as map
use Rattle.cred_tries.specs.contracts.clock.SteadyClock as clock_contract
use Rattle.cred_tries.specs.Clocks.{after_reading, moment, new_clock}
use Rattle.cred_tries.specs.Counts.{count_begun, count_ended, count_forgiven, has_failed, most_tries, place_of, remembered_failures}
use Rattle.cred_tries.specs.CountMaps.{CountMap, count_map_code, count_of, with_count}
use Rattle.cred_tries.specs.declared.clock.SteadyClock.{SteadyClock}
use Rattle.cred_tries.specs.declared.count.Count.{Count}
use Rattle.cred_tries.specs.declared.count.Place.{Place}
use Rattle.cred_tries.specs.declared.count.Place.TheVariants.{Free, Taken, Early}
use Rattle.cred_tries.specs.declared.turn.Ending.{Ending}
use Rattle.cred_tries.specs.declared.turn.Turn.{Turn}
use Rattle.cred_tries.specs.declared.turn.Turn.TheVariants as turn
use Rattle.cred_tries.specs.declared.waiting.Wait.{Wait}

-- the number of tries that may fail at a name until the next has to wait; the time; and the counts
pub record Limits : Type 0 where
  pub limit : ℕ
  pub clock : SteadyClock
  pub counts : CountMap

abbrev pub limits_code : Coded Limits
limits_code = code_by ((ℕ × SteadyClock) × CountMap)
    (coded× (coded× coded_ℕ clock_contract.the_row.coded) count_map_code)
    (λ limits. ((limits.limit, limits.clock), limits.counts))
    (λ p. record { limit = p.0.0; clock = p.0.1; counts = p.1 })
    (λ _. refl)

pub record IsLimit (limit : ℕ) : Type 0 where
  pub some : 0 < limit
  pub few : limit ≤ most_tries

-- a new limiter
abbrev pub new_limits : ℕ → Limits
new_limits limit = record { limit = limit; clock = new_clock; counts = map.empty }

-- the count of a name
abbrev pub count_at : Limits → List ℕ → Count
count_at limits name = count_of limits.counts name

abbrev pub seen : Limits → ℕ → Limits
seen limits now = record limits { clock = after_reading limits.clock now }

-- ---- a try is asked for

abbrev pub turn_at : List ℕ → Place → Turn
turn_at name Free = turn.Begun name
turn_at name Taken = turn.Waits
turn_at name (Early seconds) = turn.Later seconds

abbrev pub counts_at : CountMap → List ℕ → Count → Place → CountMap
counts_at counts name count Free = map.insert counts name (count_begun count)
counts_at counts name count _ = counts

abbrev pub place_at : Limits → List ℕ → ℕ → Place
place_at limits name now = place_of limits.limit (count_at limits name) (moment limits.clock now)

abbrev pub begin_outcome : Limits → List ℕ → ℕ → Turn × Limits
begin_outcome limits name now = (
  turn_at name (place_at limits name now),
  record (seen limits now) {
    counts = counts_at limits.counts name (count_at limits name) (place_at limits name now);
  },
)

-- ---- a try ends

abbrev pub counts_ended : Limits → List ℕ → ℕ → Ending → Option Count → CountMap
counts_ended limits name now how None = limits.counts
counts_ended limits name now how (Some count) = with_count limits.counts name
    (count_ended limits.limit count (moment limits.clock now) how)

abbrev pub after_end : Limits → List ℕ → ℕ → Ending → Limits
after_end limits name now how = record (seen limits now) {
  counts = counts_ended limits name now how (map.get limits.counts name);
}

-- ---- a try that begins and ends at one reading

-- a try may begin
abbrev pub IsFree : Limits → List ℕ → ℕ → Type 0
IsFree limits name now = place_at limits name now ≡ Free

abbrev pub after_try : Limits → List ℕ → ℕ → Ending → Limits
after_try limits name now how = after_end (begin_outcome limits name now).1 name now how

-- a try that is too early is sent away, with the seconds that are left, and there is no other
abbrev pub sending_at : Limits → ℕ → Place → Option ℕ × Limits
sending_at limits now (Early seconds) = (Some seconds, seen limits now)
sending_at limits now _ = (None, limits)

abbrev pub sending : Limits → List ℕ → ℕ → Option ℕ × Limits
sending limits name now = sending_at limits now (place_at limits name now)

-- ---- the failures at a name are forgiven

abbrev pub forgiveness : Limits → List ℕ → Option Count → Bool × Limits
forgiveness limits name None = (false, limits)
forgiveness limits name (Some count) = (
  has_failed count,
  record limits { counts = with_count limits.counts name (count_forgiven count) },
)

abbrev pub forgive_outcome : Limits → List ℕ → Bool × Limits
forgive_outcome limits name = forgiveness limits name (map.get limits.counts name)

-- ---- who has to wait

abbrev pub wait_for : List ℕ → ℕ → Place → Option Wait
wait_for name failed (Early seconds) =
    Some (record { name = name; failed = failed; seconds = seconds })
wait_for name failed _ = None

-- the wait at a name with this count, if a try is too early there at this moment
abbrev pub wait_of : ℕ → ℕ → List ℕ × Count → Option Wait
wait_of limit now (name, count) =
    wait_for name (remembered_failures count now) (place_of limit count now)

-- all waits among these names, in their order
abbrev pub waits_among : ℕ → ℕ → List (List ℕ × Count) → List Wait
waits_among limit now counts = filter_map (wait_of limit now) counts

abbrev pub waits_at : Limits → ℕ → List Wait
waits_at limits now =
    waits_among limits.limit (moment limits.clock now) (map.entries limits.counts)
