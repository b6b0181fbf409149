-- The calls at one name, among all calls.
use Rattle.std.proofs.Common.{◌≡◌, ◌≤◌, ◌<◌, ℕ, Bool, true, false, List, [], ◌∷◌, Option, Some, None, refl, sym, ap, ◌∙◌, ◌-◌, arith, subst}
use Rattle.std.specs.Prelude.{nat_lt, if◌then◌else◌, unwrap_or}
use Rattle.std.specs.FinMap as map
use Rattle.std.proofs.lemmas.Bool.Decides.{nat_tests}
use Rattle.cred_book.specs.Names.{name_cmp}
use Rattle.cred_tries.specs.Clocks.{after_reading, moment}
use Rattle.cred_tries.specs.Counts.{count_forgiven, longest_wait, nothing, place_of, remembered_failures, rest_of, wait}
use Rattle.cred_tries.specs.Histories.{Begin, Call, End, Forgive, begin_event, count_after, count_after_call, history, time_of}
use Rattle.cred_tries.specs.Limits.{Limits, begin_outcome, count_at, forgiveness, turn_at}
use Rattle.cred_tries.specs.Steps.{Asks, Ends, Forgives, Step, TellsTurn, after_step, calls_at, clock_after, is_name_of, limits_after, turn_event, with_call_if}
use Rattle.cred_tries.specs.declared.clock.SteadyClock.{SteadyClock}
use Rattle.cred_tries.specs.declared.count.Count.{Count}
use Rattle.cred_tries.specs.declared.count.Place.{Place}
use Rattle.cred_tries.specs.declared.count.Place.TheVariants.{Free, Taken, Early}
use Rattle.cred_tries.specs.declared.turn.Ending.{Ending}
use Rattle.cred_tries.specs.declared.turn.Turn.TheVariants as turn
use Rattle.cred_tries.proofs.Counted.{apart_stays, asked_here, ended_here, forgiven_here, itself, same_name}
use Rattle.cred_tries.proofs.{Limited.Ascend, Limited.Until, Times.goes_forward, Waited.wait_most}

-- ---- the limiter has what its steps tell

pub record Follows (most : ℕ) (name : List ℕ) (steps : List Step) (limits : Limits) : Type 0 where
  pub limit : limits.limit ≡ most
  pub clock : limits.clock ≡ clock_after steps
  pub count : count_at limits name ≡ count_after most (calls_at name steps)

forgive_limit : (limits : Limits) (name : List ℕ) (found : Option Count) → (forgiveness limits name found).1.limit ≡ limits.limit
forgive_limit limits name None = refl
forgive_limit limits name (Some count) = refl

forgive_clock : (limits : Limits) (name : List ℕ) (found : Option Count) → (forgiveness limits name found).1.clock ≡ limits.clock
forgive_clock limits name None = refl
forgive_clock limits name (Some count) = refl

module _ (most : ℕ) (name : List ℕ) (before : List Step) (limits : Limits) (follows : Follows most name before limits) where
  abbrev count : Count
  count = count_after most (calls_at name before)

  same : {A : Type 0} (f : ℕ → Count → SteadyClock → A) → f limits.limit (count_at limits name) limits.clock ≡ f most count (clock_after before)
  same f = ap (λ l. f l (count_at limits name) limits.clock) follows.limit
      ∙ ap (λ c. f most c limits.clock) follows.count
      ∙ ap (λ k. f most count k) follows.clock

  asks : (other : List ℕ) (now : ℕ) (b : Bool) → is_name_of name other ≡ b
      → count_at (begin_outcome limits other now).1 name ≡ count_after most (with_call_if b (Begin (moment (clock_after before) now)) (calls_at name before))
  asks other now true is =
      subst (λ q. count_at (begin_outcome limits q now).1 name ≡ count_after_call most count (Begin (moment (clock_after before) now))) (same_name name other is)
      (asked_here limits name now ∙ same (λ l c k. count_after_call l c (Begin (moment k now))))
  asks other now false is = apart_stays limits name (Asks other now) is ∙ follows.count

  ends : (other : List ℕ) (now : ℕ) (how : Ending) (b : Bool) → is_name_of name other ≡ b
      → count_at (after_step limits (Ends other now how)) name ≡ count_after most (with_call_if b (End (moment (clock_after before) now) how) (calls_at name before))
  ends other now how true is =
      subst (λ q. count_at (after_step limits (Ends q now how)) name ≡ count_after_call most count (End (moment (clock_after before) now) how)) (same_name name other is)
      (ended_here limits name now how ∙ same (λ l c k. count_after_call l c (End (moment k now) how)))
  ends other now how false is = apart_stays limits name (Ends other now how) is ∙ follows.count

  forgives : (other : List ℕ) (b : Bool) → is_name_of name other ≡ b
      → count_at (after_step limits (Forgives other)) name ≡ count_after most (with_call_if b (Forgive (clock_after before).passed) (calls_at name before))
  forgives other true is =
      subst (λ q. count_at (after_step limits (Forgives q)) name ≡ count_forgiven count) (same_name name other is)
      (forgiven_here limits name ∙ ap count_forgiven follows.count)
  forgives other false is = apart_stays limits name (Forgives other) is ∙ follows.count

pub followed : (most : ℕ) (name : List ℕ) (steps : List Step) → Follows most name steps (limits_after most steps)
followed most name [] = record { limit = refl; clock = refl; count = none_counted }
  where
    none_counted : count_at (limits_after most []) name ≡ count_after most []
    none_counted = ap (λ found. unwrap_or found nothing) (map.get-empty name_cmp name)
followed most name (Asks other now ∷ before) =
    let was = followed most name before in
    record {
      limit = was.limit;
      clock = ap (λ k. after_reading k now) was.clock;
      count = asks most name before (limits_after most before) was other now (is_name_of name other) refl;
    }
followed most name (Ends other now how ∷ before) =
    let was = followed most name before in
    record {
      limit = was.limit;
      clock = ap (λ k. after_reading k now) was.clock;
      count = ends most name before (limits_after most before) was other now how (is_name_of name other) refl;
    }
followed most name (Forgives other ∷ before) =
    let was = followed most name before in
    let found = map.get (limits_after most before).counts other in
    record {
      limit = forgive_limit (limits_after most before) other found ∙ was.limit;
      clock = forgive_clock (limits_after most before) other found ∙ was.clock;
      count = forgives most name before (limits_after most before) was other (is_name_of name other) refl;
    }

-- ---- time never goes back

pub later_until : (calls : List Call) (now late : ℕ) → now ≤ late → Until now calls → Until late calls
later_until [] now late later until = tt
later_until (call ∷ before) now late later until = omega (arith, later, until)

one_more : (call : Call) (calls : List Call) → Ascend calls → Until (time_of call) calls → Ascend (call ∷ calls)
one_more call [] ascend until = tt
one_more call (other ∷ before) ascend until = (until, ascend)

abbrev pub AscendUntil : ℕ → List Call → Type 0
AscendUntil now calls = Ascend calls × Until now calls

with_more : (b : Bool) (call : Call) (calls : List Call) (was now : ℕ) → was ≤ now → time_of call ≡ now → AscendUntil was calls → AscendUntil now (with_call_if b call calls)
with_more true call calls was now later is ascend = (
  one_more call calls ascend.0 (later_until calls was (time_of call) (omega (arith, later, is)) ascend.1),
  omega (arith, is),
)
with_more false call calls was now later is ascend = (ascend.0, later_until calls was now later ascend.1)

pub ascends : (name : List ℕ) (steps : List Step) → AscendUntil (clock_after steps).passed (calls_at name steps)
ascends name [] = (tt, tt)
ascends name (Asks other now ∷ before) =
    with_more (is_name_of name other) _ (calls_at name before) (clock_after before).passed _ (goes_forward before now) refl (ascends name before)
ascends name (Ends other now how ∷ before) =
    with_more (is_name_of name other) _ (calls_at name before) (clock_after before).passed _ (goes_forward before now) refl (ascends name before)
ascends name (Forgives other ∷ before) =
    with_more (is_name_of name other) _ (calls_at name before) (clock_after before).passed _ stays refl (ascends name before)
  where
    stays : (clock_after before).passed ≤ (clock_after before).passed
    stays = omega arith

-- ---- the answer to one who asks

same_event : (name : List ℕ) (place : Place) (t : ℕ) → begin_event place t ≡ turn_event (turn_at name place) t
same_event name Free t = refl
same_event name Taken t = refl
same_event name (Early seconds) t = refl

module _ (most : ℕ) (name : List ℕ) (steps : List Step) (now : ℕ) where
  abbrev limits : Limits
  limits = limits_after most steps

  abbrev at : ℕ
  at = moment (clock_after steps) now

  abbrev place : Place
  place = place_of most (count_after most (calls_at name steps)) at

  same_turn : turn_at name place ≡ (begin_outcome limits name now).0
  same_turn = sym (same most name steps limits (followed most name steps) (λ l c k. turn_at name (place_of l c (moment k now))))

  pub turn_told : TellsTurn most name steps now
  turn_told =
      ap (λ b. history most (with_call_if b (Begin at) (calls_at name steps))) (itself name)
      ∙ ap (λ e. e ∷ history most (calls_at name steps)) (same_event name place at ∙ ap (λ t. turn_event t at) same_turn)

-- ---- how long an answer bids to wait

abbrev IsShort : ℕ → Type 0
IsShort seconds = (0 < seconds) × (seconds ≤ longest_wait)

pub early_of : (a b : ℕ) → Early a ≡ Early b → a ≡ b
early_of a b is = cc

module _ (limit : ℕ) (count : Count) (t seconds : ℕ) where
  early_if : (a b c d : Bool) → nat_lt 0 (rest_of limit count t) ≡ d
      → (if a then (if b then Free else Taken) else (if c then Taken else (if d then Early (rest_of limit count t) else Free))) ≡ Early seconds
      → IsShort seconds
  early_if true true c d rest is = absurd cc
  early_if true false c d rest is = absurd cc
  early_if false b true d rest is = absurd cc
  early_if false b false false rest is = absurd cc
  early_if false b false true rest is =
      let same : rest_of limit count t ≡ seconds = early_of _ _ is in
      let some : 0 < rest_of limit count t = grind (arith, nat_tests) in
      let short : wait (remembered_failures count t - limit) ≤ longest_wait = wait_most (remembered_failures count t - limit) in
      (omega (arith, same, some), omega (arith, same, short))

  early_is_short : place_of limit count t ≡ Early seconds → IsShort seconds
  early_is_short is = early_if _ _ _ _ refl is

later_of : (name : List ℕ) (place : Place) (seconds : ℕ) → turn_at name place ≡ turn.Later seconds → place ≡ Early seconds
later_of name Free seconds is = absurd cc
later_of name Taken seconds is = absurd cc
later_of name (Early other) seconds is = let same : other ≡ seconds = cc in ap Early same

pub later_is_short : (limits : Limits) (name : List ℕ) (now seconds : ℕ) → (begin_outcome limits name now).0 ≡ turn.Later seconds → IsShort seconds
later_is_short limits name now seconds is =
    early_is_short limits.limit (count_at limits name) (moment limits.clock now) seconds (later_of name _ seconds is)

pub told_early : (most : ℕ) (name : List ℕ) (steps : List Step) (now seconds : ℕ) → (begin_outcome (limits_after most steps) name now).0 ≡ turn.Later seconds
    → place_of most (count_after most (calls_at name steps)) (moment (clock_after steps) now) ≡ Early seconds
told_early most name steps now seconds is = later_of name _ seconds (same_turn most name steps now ∙ is)
