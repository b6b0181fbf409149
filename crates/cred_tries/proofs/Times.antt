-- The passing of time.
use Rattle.std.proofs.Common.{◌≡◌, ◌≤◌, ℕ, ◌+◌, ◌-◌, List, [], ◌∷◌, arith, lit≤}
use Rattle.cred_tries.specs.Clocks.{after_reading, end_of_time, moment}
use Rattle.cred_tries.specs.Steps.{Asks, Ends, Forgives, Step, clock_after}
use Rattle.cred_tries.specs.declared.clock.SteadyClock.{SteadyClock}

moment_within : (clock : SteadyClock) (now : ℕ) → moment clock now ≤ end_of_time
moment_within clock now = omega arith

-- no more has passed than can
pub passed_within : (steps : List Step) → (clock_after steps).passed ≤ end_of_time
passed_within [] = lit≤ tt
passed_within (Asks name now ∷ before) = moment_within (clock_after before) now
passed_within (Ends name now how ∷ before) = moment_within (clock_after before) now
passed_within (Forgives name ∷ before) = passed_within before

forward_by : (clock : SteadyClock) (now : ℕ) → clock.passed ≤ end_of_time → clock.passed ≤ moment clock now
forward_by clock now within = omega arith

pub goes_forward : (steps : List Step) (now : ℕ) → (clock_after steps).passed ≤ moment (clock_after steps) now
goes_forward steps now = forward_by (clock_after steps) now (passed_within steps)

stands_by : (clock : SteadyClock) (now : ℕ) → clock.passed ≤ end_of_time → now ≤ clock.reading → moment clock now ≡ clock.passed
stands_by clock now within back = omega arith

pub stands : (steps : List Step) (now : ℕ) → now ≤ (clock_after steps).reading → moment (clock_after steps) now ≡ (clock_after steps).passed
stands steps now back = stands_by (clock_after steps) now (passed_within steps) back

pub goes_on : (clock : SteadyClock) (now later : ℕ) → now ≤ later → moment clock now + (later - now) ≤ end_of_time
    → moment (after_reading clock now) later ≡ moment clock now + (later - now)
goes_on clock now later after within = omega arith
