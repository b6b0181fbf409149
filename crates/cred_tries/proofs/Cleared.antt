-- A try that begins and ends at one reading.
use Rattle.std.proofs.Common.{◌≡◌, ℕ, ◌+◌, ◌-◌, true, cond, List, Option, Some, None, is_none, refl, sym, ap, ◌∙◌, arith}
use Rattle.std.specs.Prelude.{min, unwrap_or}
use Rattle.std.specs.Cmp.Lexicographic.{nat_list_cmp_total}
use Rattle.std.specs.FinMap as map
use Rattle.cred_book.proofs.Rows.{row_again, row_over}
use Rattle.cred_tries.specs.Clocks.{after_reading, end_of_time}
use Rattle.cred_tries.specs.CountMaps.{CountMap}
use Rattle.cred_tries.specs.Counts.{count_begun, nothing}
use Rattle.cred_tries.specs.Limits.{IsFree, Limits, after_end, after_try, begin_outcome, count_at, counts_at, counts_ended, seen}
use Rattle.cred_tries.specs.declared.clock.SteadyClock.{SteadyClock}
use Rattle.cred_tries.specs.declared.turn.Ending.TheVariants as ending
use Rattle.cred_tries.proofs.Counted.{itself}

abbrev pub limits_of : ℕ → SteadyClock → CountMap → Limits
limits_of limit clock counts = record { limit = limit; clock = clock; counts = counts }

clock_of : ℕ → ℕ → SteadyClock
clock_of reading passed = record { reading = reading; passed = passed }

-- a reading that comes again passes no time
pub read_again : (clock : SteadyClock) (now : ℕ) → after_reading (after_reading clock now) now ≡ after_reading clock now
unfolding clock_of
read_again clock now = ap (clock_of now) (by_time (clock.passed + (now - clock.reading)))
  where
    by_time : (t : ℕ) → min (min t end_of_time + (now - now)) end_of_time ≡ min t end_of_time
    by_time t = omega arith

module _ (limits : Limits) (name : List ℕ) (now : ℕ) (none : map.get limits.counts name ≡ None) (free : IsFree limits name now) where
  abbrev begun : CountMap
  begun = map.insert limits.counts name (count_begun nothing)

  begun_is : (begin_outcome limits name now).1 ≡ limits_of limits.limit (after_reading limits.clock now) begun
  begun_is =
      ap (λ place. limits_of limits.limit (after_reading limits.clock now) (counts_at limits.counts name (count_at limits name) place)) free
      ∙ ap (λ found. limits_of limits.limit (after_reading limits.clock now) (map.insert limits.counts name (count_begun (unwrap_or found nothing)))) none

  found : map.get begun name ≡ Some (count_begun nothing)
  found = map.get-insert nat_list_cmp_total limits.counts name (count_begun nothing) name ∙ ap (λ b. cond b (Some (count_begun nothing)) (map.get limits.counts name)) (itself name)

  cleared : map.remove begun name ≡ limits.counts
  cleared = row_over limits.counts name (Some (count_begun nothing)) None ∙ row_again limits.counts name None none

  ended_is : after_end (limits_of limits.limit (after_reading limits.clock now) begun) name now ending.Right ≡ limits_of limits.limit (after_reading limits.clock now) limits.counts
  ended_is =
      ap (λ there. limits_of limits.limit (after_reading (after_reading limits.clock now) now) (counts_ended (limits_of limits.limit (after_reading limits.clock now) begun) name now ending.Right there)) found
      ∙ ap (limits_of limits.limit (after_reading (after_reading limits.clock now) now)) cleared
      ∙ ap (λ clock. limits_of limits.limit clock limits.counts) (read_again limits.clock now)

  -- a right answer where nothing is counted only reads the clock
  pub right_at_none : after_try limits name now ending.Right ≡ seen limits now
  right_at_none = ap (λ l. after_end l name now ending.Right) begun_is ∙ ended_is

none_of : {A : Type 0} (found : Option A) → is_none found ≡ true → found ≡ None
none_of None is = refl
none_of (Some x) is = absurd cc

pub clear_right : (limits : Limits) (name : List ℕ) (now : ℕ) → is_none (map.get limits.counts name) ≡ true → IsFree limits name now → seen limits now ≡ after_try limits name now ending.Right
clear_right limits name now clear free = sym (right_at_none limits name now (none_of (map.get limits.counts name) clear) free)
