-- Answers that a limiter counts at once.
use Rattle.std.proofs.Common.{◌≡◌, inl, inr, ◌≤◌, ◌<◌, ℕ, ◌+◌, Bool, true, false, if◌then◌else◌, List, [], ◌∷◌, ◌++◌, Option, Some, None, is_none, refl, sym, ap, ◌∙◌, arith, subst}
use Rattle.std.specs.Prelude.{nat_le, nat_lt, unwrap_or}
use Rattle.std.specs.List.{All}
use Rattle.std.proofs.lemmas.Bool.Decides.{nat_tests}
use Rattle.std.proofs.lemmas.List.Elements.{All-head, All-nil, All-push, All-tail, All-weaker}
use Rattle.std.specs.FinMap as map
use Rattle.cred_book.specs.Names.{name_cmp}
use Rattle.cred_tries.specs.Answers.{AreInTurn, Ascend, HasCounted, IsIdle, IsSettled, KeepLimit, MustWait, with_told}
use Rattle.cred_tries.specs.Clocks.{after_reading, moment}
use Rattle.cred_tries.specs.Counts.{count_begun, count_ended, count_ended_as, day, most_tries, nothing, place_of, remembered_failures, rest_of}
use Rattle.cred_tries.specs.Histories.{Begin, Call, End, Event, Begun, Forgive, Forgiven, HasWaited, IsLimited, MayBegin, Right, Sent, Wrong, begin_event, begun_if, count_after, end_event, failures, history, last_failure, with_event as call_event}
use Rattle.cred_tries.specs.Limits.{IsFree, IsLimit, Limits, after_try, begin_outcome, count_at, counts_at, forgive_outcome, forgiveness, new_limits, place_at, seen, sending, sending_at, turn_at}
use Rattle.cred_tries.specs.Steps.{Asks, Ends, Forgives, Step, calls_at, clock_after, events_at, is_name_of, limits_after, turn_event, with_call_if}
use Rattle.cred_tries.specs.Stretches.{FailsSeldom, judgements}
use Rattle.cred_tries.specs.declared.clock.SteadyClock.{SteadyClock}
use Rattle.cred_tries.specs.declared.count.Count.{Count}
use Rattle.cred_tries.specs.declared.count.Place.{Place}
use Rattle.cred_tries.specs.declared.count.Place.TheVariants.{Free, Taken, Early}
use Rattle.cred_tries.specs.declared.turn.Ending.{Ending}
use Rattle.cred_tries.specs.declared.turn.Ending.TheVariants as ending
use Rattle.cred_tries.specs.declared.turn.Turn.TheVariants as turn
use Rattle.cred_tries.proofs.{Cleared.read_again, Cleared.right_at_none, Counted.apart_stays, Counted.asked_here, Counted.ended_here, Counted.forgiven_here, Counted.same_name, Earlier.early_behind, Judged.ends_seldom, Judged.same_failures, Judged.same_last, Limited.limited, Seldom.fails_seldom, Times.goes_forward, Times.passed_within, Traced.ascends, Traced.followed, Traced.later_is_short, Traced.turn_told}

-- ---- no try runs between two calls

ended_running : (limit : ℕ) (count : Count) (t : ℕ) (how : Ending) → (count_ended limit (count_begun count) t how).running ≡ count.running
ended_running limit count t how = by_test how (nat_lt 0 (count.running + 1)) refl
  where
    by_test : (how : Ending) (b : Bool) → nat_lt 0 (count.running + 1) ≡ b → (if b then count_ended_as limit (count_begun count) t how else count_begun count).running ≡ count.running
    by_test ending.Right true is = omega arith
    by_test ending.Wrong true is = omega arith
    by_test ending.Unjudged true is = omega arith
    by_test how false is = absurd (grind (arith, nat_tests, is))

module _ (l : Limits) (name : List ℕ) where
  tried_here : (now : ℕ) (how : Ending) → IsFree l name now → (count_at (after_try l name now how) name).running ≡ (count_at l name).running
  tried_here now how free =
      let asked = (begin_outcome l name now).1 in
      ap (λ (c : Count). c.running) (ended_here asked name now how)
      ∙ ap (λ (c : Count). (count_ended l.limit c (moment asked.clock now) how).running) (asked_here l name now ∙ ap (λ place. begun_if (count_at l name) place) free)
      ∙ ended_running l.limit (count_at l name) (moment asked.clock now) how

  tried_apart : (q : List ℕ) (now : ℕ) (how : Ending) → is_name_of q name ≡ false → count_at (after_try l name now how) q ≡ count_at l q
  tried_apart q now how apart = apart_stays (begin_outcome l name now).1 q (Ends name now how) apart ∙ apart_stays l q (Asks name now) apart

  pub idle_tried : (now : ℕ) (how : Ending) → IsFree l name now → IsIdle l → IsIdle (after_try l name now how)
  idle_tried now how free idle q = by_tie (is_name_of q name) refl
    where
      by_tie : (b : Bool) → is_name_of q name ≡ b → (count_at (after_try l name now how) q).running ≡ 0
      by_tie true tie = subst (λ p. (count_at (after_try l name now how) p).running ≡ 0) (sym (same_name q name tie)) (tried_here now how free ∙ idle name)
      by_tie false tie = ap (λ (c : Count). c.running) (tried_apart q now how tie) ∙ idle q

  pub idle_forgiven : IsIdle l → IsIdle (forgive_outcome l name).1
  idle_forgiven idle q = by_tie (is_name_of q name) refl
    where
      by_tie : (b : Bool) → is_name_of q name ≡ b → (count_at (forgive_outcome l name).1 q).running ≡ 0
      by_tie true tie = subst (λ p. (count_at (forgive_outcome l name).1 p).running ≡ 0) (sym (same_name q name tie)) (ap (λ (c : Count). c.running) (forgiven_here l name) ∙ idle name)
      by_tie false tie = ap (λ (c : Count). c.running) (apart_stays l q (Forgives name) tie) ∙ idle q

  -- so a try is too early, or it may be judged
  free_if : (count : Count) (now reading : ℕ) (p : Place) → count.running ≡ 0 → place_of l.limit count now ≡ p → (sending_at l reading p).0 ≡ None → p ≡ Free
  free_if count now reading Free none is sent = refl
  free_if count now reading Taken none is sent = absurd (not_taken (nat_lt _ l.limit) (nat_lt _ l.limit) (nat_lt 0 count.running) (nat_lt 0 _) refl refl refl is)
    where
      not_taken : (a b c d : Bool) → nat_lt (remembered_failures count now) l.limit ≡ a → nat_lt (remembered_failures count now + count.running) l.limit ≡ b → nat_lt 0 count.running ≡ c
          → (if a then (if b then Free else Taken) else (if c then Taken else (if d then Early (rest_of l.limit count now) else Free))) ≡ Taken → ⊥
      not_taken true true c d one two three is = cc
      not_taken true false c d one two three is = grind (arith, nat_tests, one, two, none)
      not_taken false b true d one two three is = grind (arith, nat_tests, three, none)
      not_taken false b false true one two three is = cc
      not_taken false b false false one two three is = cc
  free_if count now reading (Early seconds) none is sent = absurd cc

  pub open_unless : (now : ℕ) → IsIdle l → (sending l name now).0 ≡ None → IsFree l name now
  open_unless now idle sent = free_if (count_at l name) (moment l.clock now) now (place_at l name now) (idle name) refl sent

-- ---- a limiter that goes on by steps

ascend_push : (ts : List ℕ) (t : ℕ) → Ascend ts → All (λ u. u ≤ t) ts → Ascend (ts ++ t ∷ [])
ascend_push [] t ascend until = (All-nil (λ u. t ≤ u), tt)
ascend_push (first ∷ ts) t ascend until = (
  All-push (λ u. first ≤ u) ts t ascend.0 (All-head (λ u. u ≤ t) first ts until),
  ascend_push ts t ascend.1 (All-tail (λ u. u ≤ t) first ts until),
)

module _ (limit : ℕ) (times : List ℕ) (told : List ℕ → List Event) (steps : List Step) where
  abbrev limits : Limits
  limits = limits_after limit steps

  abbrev clock : SteadyClock
  clock = clock_after steps

  clock_is : limits.clock ≡ clock
  clock_is = (followed limit [] steps).clock

  pub record Kept : Type 0 where
    some : 0 < limit
    few : limit ≤ most_tries
    told_are : (name : List ℕ) → judgements (events_at limit name steps) ≡ judgements (told name)
    in_turn : (name : List ℕ) → AreInTurn limit (told name)
    ascend : Ascend times
    until : All (λ t. t ≤ limits.clock.passed) times

  module _ (k : Kept) where
    same_failed : (name : List ℕ) (t : ℕ) → failures t (told name) ≡ failures t (events_at limit name steps)
    same_failed name t = sym (same_failures (told name) t) ∙ ap (failures t) (sym (k.told_are name)) ∙ same_failures (events_at limit name steps) t

    same_late : (name : List ℕ) → last_failure (told name) ≡ last_failure (events_at limit name steps)
    same_late name = sym (same_last (told name)) ∙ ap last_failure (sym (k.told_are name)) ∙ same_last (events_at limit name steps)

    -- later times
    more_times : (later : Limits) → limits.clock.passed ≤ later.clock.passed → Ascend (times ++ later.clock.passed ∷ []) × All (λ t. t ≤ later.clock.passed) (times ++ later.clock.passed ∷ [])
    more_times later forward =
        let all = All-weaker (λ t. t ≤ limits.clock.passed) (λ t. t ≤ later.clock.passed) (λ t h. omega (arith, h, forward)) times k.until in
        (ascend_push times later.clock.passed k.ascend all, All-push (λ t. t ≤ later.clock.passed) times later.clock.passed all (omega arith))

    module _ (later : Limits) (more : List Step) (now_told : List ℕ → List Event) where
      pub goes_on : later ≡ limits_after limit more → ((q : List ℕ) → judgements (events_at limit q more) ≡ judgements (now_told q)) → ((q : List ℕ) → AreInTurn limit (now_told q))
          → limits.clock.passed ≤ later.clock.passed → HasCounted limit later (times ++ later.clock.passed ∷ []) now_told
      goes_on limits_are told_are in_turn forward =
          let (ascend, until) = more_times later forward in
          record { some = k.some; few = k.few; steps = more; limits_are = limits_are; told_are = told_are; in_turn = in_turn; ascend = ascend; until = until }

    -- ---- a password is judged

    module _ (name : List ℕ) (now : ℕ) where
      abbrev at : ℕ
      at = moment clock now

      abbrev passed : ℕ
      passed = (after_reading (after_reading limits.clock now) now).passed

      passed_is : passed ≡ at
      passed_is = ap (λ (c : SteadyClock). c.passed) (read_again limits.clock now) ∙ ap (λ c. moment c now) clock_is

      end_is : moment (after_reading clock now) now ≡ passed
      end_is = ap (λ c. moment (after_reading c now) now) (sym clock_is)

      passes : limits.clock.passed ≤ passed
      passes =
          let forward = goes_forward steps now in
          let same = ap (λ (c : SteadyClock). c.passed) clock_is in
          omega (arith, forward, same, passed_is)

      module _ (free : IsFree limits name now) where
        place_here : place_of limit (count_after limit (calls_at name steps)) at ≡ Free
        place_here =
            let f = followed limit name steps in
            sym (ap (λ n. place_of n (count_at limits name) (moment limits.clock now)) f.limit
            ∙ ap (λ c. place_of limit c (moment limits.clock now)) f.count
            ∙ ap (λ c. place_of limit (count_after limit (calls_at name steps)) (moment c now)) f.clock) ∙ free

        -- what comes of it at the name
        abbrev calls : List Call
        calls = calls_at name steps

        judged_if : (how : Ending) (p : Place) → p ≡ Free → (count_after limit calls).running + 1 ≡ (count_after limit calls).running + 1
            → (event : Event) → end_event how passed ≡ event → judgements (event ∷ []) ≡ event ∷ []
            → ((rest : List Event) → judgements (event ∷ rest) ≡ event ∷ judgements rest)
            → judgements (call_event limit (begun_if (count_after limit calls) p) (End passed how) (begin_event p at ∷ history limit calls)) ≡ event ∷ judgements (history limit calls)
        judged_if how Free is same event event_is one any = by_test (nat_lt 0 ((count_after limit calls).running + 1)) refl
          where
            by_test : (b : Bool) → nat_lt 0 ((count_after limit calls).running + 1) ≡ b
                → judgements (if b then end_event how passed ∷ (Begun at ∷ history limit calls) else (Begun at ∷ history limit calls)) ≡ event ∷ judgements (history limit calls)
            by_test true runs = ap (λ e. judgements (e ∷ (Begun at ∷ history limit calls))) event_is ∙ any (Begun at ∷ history limit calls)
            by_test false runs = absurd (grind (arith, nat_tests, runs))
        judged_if how _ is same event event_is one any = absurd cc

        may : MayBegin limit at (events_at limit name steps)
        may =
            let told_turn = turn_told limit name steps now in
            let begun : (begin_outcome limits name now).0 ≡ turn.Begun name = ap (turn_at name) free in
            let all = limited limit k.some (calls_at name (Asks name now ∷ steps)) (ascends name (Asks name now ∷ steps)).0 in
            (subst (IsLimited limit) (told_turn ∙ ap (λ u. turn_event u at ∷ events_at limit name steps) begun) all).0

        waited : limit ≤ failures passed (told name) → HasWaited limit passed (told name)
        waited = subst (λ t. limit ≤ failures t (told name) → HasWaited limit t (told name)) (sym passed_is) waited_at
          where
            waited_at : limit ≤ failures at (told name) → HasWaited limit at (told name)
            waited_at = rw (same_failed name at, same_late name) (λ many. elim may [
              | inl few ↦ absurd (omega (arith, many, few))
              | inr w ↦ w.1
            ])

        abbrev steps_judged : Ending → List Step
        steps_judged how = Ends name now how ∷ Asks name now ∷ steps

        abbrev told_with : Option Event → List ℕ → List Event
        told_with event q = with_told (if is_name_of q name then event else None) (told q)

        -- the same is told, and in its turn
        judged : (how : Ending) (event : Event) → end_event how passed ≡ event → ((rest : List Event) → judgements (event ∷ rest) ≡ event ∷ judgements rest) → AreInTurn limit (event ∷ told name)
            → HasCounted limit (after_try limits name now how) (times ++ passed ∷ []) (told_with (Some event))
        judged how event event_is any in_order = goes_on (after_try limits name now how) (steps_judged how) (told_with (Some event)) refl (λ q. told_at q (is_name_of q name) refl) (λ q. turn_at_name q (is_name_of q name) refl) passes
          where
            here : judgements (history limit (End passed how ∷ Begin at ∷ calls)) ≡ judgements (event ∷ told name)
            here = judged_if how _ place_here refl event event_is (any []) any ∙ ap (λ es. event ∷ es) (k.told_are name) ∙ sym (any (told name))

            told_at : (q : List ℕ) (b : Bool) → is_name_of q name ≡ b
                → judgements (history limit (with_call_if b (End (moment (after_reading clock now) now) how) (with_call_if b (Begin at) (calls_at q steps)))) ≡ judgements (with_told (if b then Some event else None) (told q))
            told_at q true tie = subst (λ p. judgements (history limit (End (moment (after_reading clock now) now) how ∷ Begin at ∷ calls_at p steps)) ≡ judgements (event ∷ told p)) (sym (same_name q name tie))
                (ap (λ t. judgements (history limit (End t how ∷ Begin at ∷ calls))) end_is ∙ here)
            told_at q false tie = k.told_are q

            turn_at_name : (q : List ℕ) (b : Bool) → is_name_of q name ≡ b → AreInTurn limit (with_told (if b then Some event else None) (told q))
            turn_at_name q true tie = subst (λ p. AreInTurn limit (event ∷ told p)) (sym (same_name q name tie)) in_order
            turn_at_name q false tie = k.in_turn q

        pub counted_right : HasCounted limit (after_try limits name now ending.Right) (times ++ passed ∷ []) (told_with (Some (Right passed)))
        counted_right = judged ending.Right (Right passed) refl (λ rest. refl) (waited, k.in_turn name)

        pub counted_wrong : HasCounted limit (after_try limits name now ending.Wrong) (times ++ passed ∷ []) (told_with (Some (Wrong passed)))
        counted_wrong = judged ending.Wrong (Wrong passed) refl (λ rest. refl) (waited, k.in_turn name)

      -- ---- a try is too early

      nothing_begins : (p : Place) (t : ℕ) (rest : List Event) → judgements (begin_event p t ∷ rest) ≡ judgements rest
      nothing_begins Free t rest = refl
      nothing_begins Taken t rest = refl
      nothing_begins (Early seconds) t rest = refl

      early_of : (p : Place) (seconds : ℕ) → (sending_at limits now p).0 ≡ Some seconds → p ≡ Early seconds
      early_of Free seconds is = absurd cc
      early_of Taken seconds is = absurd cc
      early_of (Early other) seconds is = let same : other ≡ seconds = cc in ap Early same

      abbrev seen_passed : ℕ
      seen_passed = (seen limits now).clock.passed

      seen_is : seen_passed ≡ at
      seen_is = ap (λ c. moment c now) clock_is

      module _ (seconds : ℕ) (sent : (sending limits name now).0 ≡ Some seconds) where
        early : place_at limits name now ≡ Early seconds
        early = early_of (place_at limits name now) seconds sent

        later_is : (begin_outcome limits name now).0 ≡ turn.Later seconds
        later_is = ap (turn_at name) early

        same_limits : seen limits now ≡ (begin_outcome limits name now).1
        same_limits = sym (ap (λ p. record (seen limits now) { counts = counts_at limits.counts name (count_at limits name) p }) early)

        must_wait : MustWait limit seen_passed seconds (told name)
        must_wait = subst (λ t. MustWait limit t seconds (told name)) (sym seen_is) must_at
          where
            must_at : MustWait limit at seconds (told name)
            must_at =
                let h = events_at limit name steps in
                let (some_left, short) = later_is_short limits name now seconds later_is in
                (some_left, short, rw (same_failed name at, same_late name) (rw (same_failures h at, same_last h) at (early_behind limit name steps now seconds k.some later_is)))

        abbrev told_sent : List ℕ → List Event
        told_sent q = with_told (if is_name_of q name then Some (Sent seen_passed seconds) else None) (told q)

        pub counted_sent : HasCounted limit (seen limits now) (times ++ seen_passed ∷ []) told_sent
        counted_sent = goes_on (seen limits now) (Asks name now ∷ steps) told_sent same_limits (λ q. told_at q (is_name_of q name) refl) (λ q. turn_at_name q (is_name_of q name) refl) forward
          where
            told_at : (q : List ℕ) (b : Bool) → is_name_of q name ≡ b → judgements (history limit (with_call_if b (Begin at) (calls_at q steps))) ≡ judgements (with_told (if b then Some (Sent seen_passed seconds) else None) (told q))
            told_at q true tie = nothing_begins _ at (history limit (calls_at q steps)) ∙ k.told_are q
            told_at q false tie = k.told_are q

            turn_at_name : (q : List ℕ) (b : Bool) → is_name_of q name ≡ b → AreInTurn limit (with_told (if b then Some (Sent seen_passed seconds) else None) (told q))
            turn_at_name q true tie = subst (λ p. AreInTurn limit (Sent seen_passed seconds ∷ told p)) (sym (same_name q name tie)) (must_wait, k.in_turn name)
            turn_at_name q false tie = k.in_turn q

            forward : limits.clock.passed ≤ seen_passed
            forward =
                let on = goes_forward steps now in
                let same = ap (λ (c : SteadyClock). c.passed) clock_is in
                omega (arith, on, same, seen_is)

    -- ---- failures are forgiven

    module _ (name : List ℕ) where
      forgiven_clock : (found : Option Count) → (forgiveness limits name found).1.clock ≡ limits.clock
      forgiven_clock None = refl
      forgiven_clock (Some count) = refl

      abbrev forgiven : Limits
      forgiven = (forgive_outcome limits name).1

      same_passed : forgiven.clock.passed ≡ limits.clock.passed
      same_passed = ap (λ (c : SteadyClock). c.passed) (forgiven_clock (map.get limits.counts name))

      abbrev told_forgiven : List ℕ → List Event
      told_forgiven q = with_told (if is_name_of q name then Some (Forgiven forgiven.clock.passed) else None) (told q)

      pub counted_forgiven : HasCounted limit forgiven (times ++ forgiven.clock.passed ∷ []) told_forgiven
      counted_forgiven = goes_on forgiven (Forgives name ∷ steps) told_forgiven refl (λ q. told_at q (is_name_of q name) refl) (λ q. turn_at_name q (is_name_of q name) refl) (omega (arith, same_passed))
        where
          event_is : clock.passed ≡ forgiven.clock.passed
          event_is = sym (same_passed ∙ ap (λ (c : SteadyClock). c.passed) clock_is)

          told_at : (q : List ℕ) (b : Bool) → is_name_of q name ≡ b → judgements (history limit (with_call_if b (Forgive clock.passed) (calls_at q steps))) ≡ judgements (with_told (if b then Some (Forgiven forgiven.clock.passed) else None) (told q))
          told_at q true tie = ap (λ t. Forgiven t ∷ judgements (history limit (calls_at q steps))) event_is ∙ ap (λ es. Forgiven forgiven.clock.passed ∷ es) (k.told_are q)
          told_at q false tie = k.told_are q

          turn_at_name : (q : List ℕ) (b : Bool) → is_name_of q name ≡ b → AreInTurn limit (with_told (if b then Some (Forgiven forgiven.clock.passed) else None) (told q))
          turn_at_name q true tie = k.in_turn q
          turn_at_name q false tie = k.in_turn q

      -- ---- nothing is told

      abbrev told_nothing : List ℕ → List Event
      told_nothing q = with_told (if is_name_of q name then None else None) (told q)

      pub counted_nothing : HasCounted limit limits (times ++ limits.clock.passed ∷ []) told_nothing
      counted_nothing = goes_on limits steps told_nothing refl (λ q. told_at q (is_name_of q name)) (λ q. turn_at_name q (is_name_of q name)) (omega arith)
        where
          told_at : (q : List ℕ) (b : Bool) → judgements (events_at limit q steps) ≡ judgements (with_told (if b then None else None) (told q))
          told_at q true = k.told_are q
          told_at q false = k.told_are q

          turn_at_name : (q : List ℕ) (b : Bool) → AreInTurn limit (with_told (if b then None else None) (told q))
          turn_at_name q true = k.in_turn q
          turn_at_name q false = k.in_turn q

-- ---- by any limiter

module _ (limit : ℕ) (l : Limits) (times : List ℕ) (told : List ℕ → List Event) (name : List ℕ) (now : ℕ) (c : HasCounted limit l times told) where
  abbrev pub After : Limits → Option Event → Type 0
  After m event = HasCounted limit m (times ++ m.clock.passed ∷ []) (λ q. with_told (if is_name_of q name then event else None) (told q))

  kept : Kept limit times told c.steps
  kept = record { some = c.some; few = c.few; told_are = c.told_are; in_turn = c.in_turn; ascend = c.ascend; until = subst (λ m. All (λ t. t ≤ m.clock.passed) times) c.limits_are c.until }

  pub after_right : IsFree l name now → After (after_try l name now ending.Right) (Some (Right (after_try l name now ending.Right).clock.passed))
  after_right free = subst (λ m. IsFree m name now → After (after_try m name now ending.Right) (Some (Right (after_try m name now ending.Right).clock.passed))) (sym c.limits_are) (λ f. counted_right limit times told c.steps kept name now f) free

  pub after_wrong : IsFree l name now → After (after_try l name now ending.Wrong) (Some (Wrong (after_try l name now ending.Wrong).clock.passed))
  after_wrong free = subst (λ m. IsFree m name now → After (after_try m name now ending.Wrong) (Some (Wrong (after_try m name now ending.Wrong).clock.passed))) (sym c.limits_are) (λ f. counted_wrong limit times told c.steps kept name now f) free

  pub after_forgiving : After (forgive_outcome l name).1 (Some (Forgiven (forgive_outcome l name).1.clock.passed))
  after_forgiving = subst (λ m. After (forgive_outcome m name).1 (Some (Forgiven (forgive_outcome m name).1.clock.passed))) (sym c.limits_are) (counted_forgiven limit times told c.steps kept name)

  pub after_nothing : After l None
  after_nothing = subst (λ m. After m None) (sym c.limits_are) (counted_nothing limit times told c.steps kept name)

  pub after_sending : (seconds : ℕ) → (sending l name now).0 ≡ Some seconds → After (seen l now) (Some (Sent (seen l now).clock.passed seconds))
  after_sending seconds sent = subst (λ m. (sending m name now).0 ≡ Some seconds → After (seen m now) (Some (Sent (seen m now).clock.passed seconds))) (sym c.limits_are) (λ is. counted_sent limit times told c.steps kept name now seconds is) sent

-- ---- the limit is kept

pub keep_limit : (limit : ℕ) (l : Limits) (times : List ℕ) (told : List ℕ → List Event) → HasCounted limit l times told → KeepLimit limit l.clock.passed times told
keep_limit limit l times told c = record {
  ascend = c.ascend;
  until = c.until;
  in_turn = c.in_turn;
  seldom = λ name.
      let all = limited limit c.some (calls_at name c.steps) (ascends name c.steps).0 in
      subst (FailsSeldom limit) (c.told_are name) (ends_seldom limit (events_at limit name c.steps) (fails_seldom limit (events_at limit name c.steps) c.few all));
}

-- before the first answer
pub none_counted : (limit : ℕ) → IsLimit limit → (told : List ℕ → List Event) → ((name : List ℕ) → told name ≡ []) → HasCounted limit (new_limits limit) [] told
none_counted limit is told none = record {
  some = is.some;
  few = is.few;
  steps = [];
  limits_are = refl;
  told_are = λ name. ap judgements (sym (none name));
  in_turn = λ name. subst (AreInTurn limit) (sym (none name)) tt;
  ascend = tt;
  until = All-nil (λ t. t ≤ 0);
}

pub settled_by : (limit : ℕ) (l : Limits) (times : List ℕ) (told : List ℕ → List Event) → HasCounted limit l times told → IsSettled l
settled_by limit l times told c =
    let f = followed limit [] c.steps in
    let same = ap (λ (m : Limits). m.limit) c.limits_are ∙ f.limit in
    let passed = ap (λ (m : Limits). m.clock.passed) c.limits_are ∙ ap (λ (k : SteadyClock). k.passed) f.clock in
    let some = c.some in
    let within = passed_within c.steps in
    (omega (arith, same, some), omega (arith, passed, within))

-- ---- nothing changes where nothing is counted

module _ (l : Limits) (name : List ℕ) (settled : IsSettled l) (clear : is_none (map.get l.counts name) ≡ true) where
  none_of : {A : Type 0} (found : Option A) → is_none found ≡ true → found ≡ None
  none_of None is = refl
  none_of (Some x) is = absurd cc

  none : map.get l.counts name ≡ None
  none = none_of (map.get l.counts name) clear

  free_at : (t : ℕ) (a b c : Bool) → nat_lt (remembered_failures nothing t) l.limit ≡ a → nat_lt (remembered_failures nothing t + 0) l.limit ≡ b
      → (if a then (if b then Free else Taken) else (if nat_lt 0 0 then Taken else (if c then Early (rest_of l.limit nothing t) else Free))) ≡ Free
  free_at t true true c one two = refl
  free_at t true false c one two = absurd (grind (arith, nat_tests, one, two))
  free_at t false b c one two = absurd (few_failures (nat_le (0 + day) t) refl)
    where
      few_failures : (d : Bool) → nat_le (0 + day) t ≡ d → ⊥
      few_failures true is = let some = settled.0 in grind (arith, nat_tests, one, is, some)
      few_failures false is = let some = settled.0 in grind (arith, nat_tests, one, is, some)

  pub free : (now : ℕ) → IsFree l name now
  free now = ap (λ found. place_of l.limit (unwrap_or found nothing) (moment l.clock now)) none ∙ free_at (moment l.clock now) _ _ _ refl refl

  same_clock : after_reading l.clock l.clock.reading ≡ l.clock
  same_clock = ap (λ passed. record l.clock { passed = passed }) passed_is
    where
      passed_is : moment l.clock l.clock.reading ≡ l.clock.passed
      passed_is = let within = settled.1 in omega (arith, within)

  pub right_is : after_try l name l.clock.reading ending.Right ≡ l
  right_is = right_at_none l name l.clock.reading none (free l.clock.reading) ∙ ap (λ clock. record l { clock = clock }) same_clock

  pub forgiven_is : (forgive_outcome l name).1 ≡ l
  forgiven_is = ap (λ found. (forgiveness l name found).1) none

-- ---- the clock

pub forgiven_clock_is : (l : Limits) (name : List ℕ) → (forgive_outcome l name).1.clock ≡ l.clock
forgiven_clock_is l name = by_found (map.get l.counts name)
  where
    by_found : (found : Option Count) → (forgiveness l name found).1.clock ≡ l.clock
    by_found None = refl
    by_found (Some count) = refl

pub tried_clock_is : (l : Limits) (name : List ℕ) (now : ℕ) (how : Ending) → (after_try l name now how).clock ≡ after_reading l.clock now
tried_clock_is l name now how = read_again l.clock now

-- ---- what a call says that may send a try away

module _ (l : Limits) (name : List ℕ) (now : ℕ) where
  sent_at : (p : Place) (seconds : ℕ) → (sending_at l now p).0 ≡ Some seconds → (sending_at l now p).1 ≡ seen l now
  sent_at Free seconds is = absurd cc
  sent_at Taken seconds is = absurd cc
  sent_at (Early other) seconds is = refl

  same_at : (p : Place) → (sending_at l now p).0 ≡ None → (sending_at l now p).1 ≡ l
  same_at Free is = refl
  same_at Taken is = refl
  same_at (Early seconds) is = absurd cc

  pub sent_seen : (seconds : ℕ) → (sending l name now).0 ≡ Some seconds → (sending l name now).1 ≡ seen l now
  sent_seen seconds is = sent_at (place_at l name now) seconds is

  pub sent_same : (sending l name now).0 ≡ None → (sending l name now).1 ≡ l
  sent_same is = same_at (place_at l name now) is

  pub idle_seen : IsIdle l → IsIdle (seen l now)
  idle_seen idle q = idle q

pub idle_new : (limit : ℕ) → IsIdle (new_limits limit)
idle_new limit name = ap (λ found. (unwrap_or found nothing).running) (map.get-empty name_cmp name)
