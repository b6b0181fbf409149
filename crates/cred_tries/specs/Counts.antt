-- The count of one name, and how calls change it.
use Rattle.std.specs.Prelude.{ℕ, ◌+◌, ◌-◌, ◌^◌, ◌==◌, ◌&&◌, Bool, nat_le, nat_lt, min, if◌then◌else◌}
use Rattle.cred_tries.specs.declared.count.Count.{Count}
use Rattle.cred_tries.specs.declared.count.Place.{Place}
use Rattle.cred_tries.specs.declared.count.Place.TheVariants.{Free, Taken, Early}
use Rattle.cred_tries.specs.declared.turn.Ending.{Ending}
use Rattle.cred_tries.specs.declared.turn.Ending.TheVariants as ending

-- after so long without another, failures are forgotten: a day, in seconds
abbrev pub day : ℕ
day = 86400

-- a quarter of an hour, in seconds
abbrev pub longest_wait : ℕ
longest_wait = 900

-- the number of shorter waits: 1, 2, 4 .. 512 seconds
abbrev pub short_waits : ℕ
short_waits = 10

-- The greatest limit. It and the short waits are together as many as a day has longest waits.
abbrev pub most_tries : ℕ
most_tries = 86

-- the number of seconds that the next try waits after so many failures more than the limit
unfoldable pub wait : ℕ → ℕ
wait more = min (2 ^ more) longest_wait

abbrev pub nothing : Count
nothing = record { failed = 0; running = 0; last = 0 }

abbrev pub is_nothing : Count → Bool
is_nothing count = (count.failed == 0) && ((count.running == 0) && (count.last == 0))

abbrev pub has_failed : Count → Bool
has_failed count = nat_lt 0 count.failed

-- the failures in a row that aren't forgotten at this moment
abbrev pub remembered_failures : Count → ℕ → ℕ
remembered_failures count now = if nat_le (count.last + day) now then 0 else count.failed

-- the number of seconds that are left of the wait after the last failure
abbrev pub rest_of : ℕ → Count → ℕ → ℕ
rest_of limit count now = wait (remembered_failures count now - limit) - (now - count.last)

-- The place for a try. Each try that runs may fail, so it counts as a failure. After as many
-- failures as the limit says, one place is free once the wait is over.
abbrev pub place_of : ℕ → Count → ℕ → Place
place_of limit count now =
    if nat_lt (remembered_failures count now) limit
    then (if nat_lt (remembered_failures count now + count.running) limit then Free else Taken)
    else (if nat_lt 0 count.running then Taken
    else (if nat_lt 0 (rest_of limit count now) then Early (rest_of limit count now) else Free))

abbrev pub count_begun : Count → Count
count_begun count = record count { running = count.running + 1 }

-- A try ends. More failures than make the longest wait aren't told apart.
abbrev pub count_ended_as : ℕ → Count → ℕ → Ending → Count
count_ended_as limit count now ending.Right =
    record { failed = 0; running = count.running - 1; last = 0 }
count_ended_as limit count now ending.Wrong = record {
  failed = min (remembered_failures count now + 1) (limit + short_waits);
  running = count.running - 1;
  last = now;
}
count_ended_as limit count now ending.Unjudged = record count { running = count.running - 1 }

-- an end changes nothing if no try runs
abbrev pub count_ended : ℕ → Count → ℕ → Ending → Count
count_ended limit count now how =
    if nat_lt 0 count.running then count_ended_as limit count now how else count

abbrev pub count_forgiven : Count → Count
count_forgiven count = record { failed = 0; running = count.running; last = 0 }
