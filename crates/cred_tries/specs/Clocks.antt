-- The time that passes by a clock that may be set.
use Rattle.std.specs.Prelude.{ℕ, ◌+◌, ◌-◌, ◌^◌, min}
use Rattle.cred_tries.specs.declared.clock.SteadyClock.{SteadyClock}

-- the last second that the clock tells from the one before
abbrev pub end_of_time : ℕ
end_of_time = 2 ^ 64 - 1

-- The moment of a reading: the seconds that have passed until then. Since the reading before it
-- as many have passed as the clock went forward, and 0 if it went back.
abbrev pub moment : SteadyClock → ℕ → ℕ
moment clock now = min (clock.passed + (now - clock.reading)) end_of_time

abbrev pub after_reading : SteadyClock → ℕ → SteadyClock
after_reading clock now = record { reading = now; passed = moment clock now }

-- no reading yet, and no time has passed
abbrev pub new_clock : SteadyClock
new_clock = record { reading = 0; passed = 0 }
