-- The counts at a name and its history.
use Rattle.std.proofs.Common.{◌≡◌, ◌⊎◌, inl, inr, ◌≤◌, ◌<◌, ℕ, ◌+◌, ◌-◌, Bool, true, false, if◌then◌else◌, List, [], ◌∷◌, refl, sym, ap, ◌∙◌, arith, subst}
use Rattle.std.specs.Prelude.{min, nat_le, nat_lt, ⊤}
use Rattle.std.proofs.lemmas.Bool.Decides.{nat_tests}
use Rattle.cred_tries.specs.Counts.{count_begun, count_ended_as, count_forgiven, day, nothing, place_of, remembered_failures, rest_of, short_waits, wait}
use Rattle.cred_tries.specs.Histories.{Begin, Call, End, Event, Forgive, Forgiven, HasWaited, IsLimited, MayBegin, begin_event, begun_if, count_after, count_after_call, end_event, failures, history, last_failure, running, time_of, with_event}
use Rattle.cred_tries.specs.declared.count.Count.{Count}
use Rattle.cred_tries.specs.declared.count.Place.{Place}
use Rattle.cred_tries.specs.declared.count.Place.TheVariants.{Free, Taken, Early}
use Rattle.cred_tries.specs.declared.turn.Ending.{Ending}
use Rattle.cred_tries.specs.declared.turn.Ending.TheVariants as ending
use Rattle.cred_tries.proofs.Waited.{wait_capped, wait_pos}

-- few run; or one, whose wait is over
abbrev Paced : ℕ → Count → ℕ → Type 0
Paced limit count now =
    (count.running ≤ limit)
    × ((remembered_failures count now + count.running ≤ limit) ⊎ ((count.running ≤ 1) × (count.running ≡ 1 → count.last + wait (remembered_failures count now - limit) ≤ now)))

-- the counts are those of this history, at this reading
pub record Tells (limit : ℕ) (count : Count) (h : List Event) (now : ℕ) : Type 0 where
  pub runs : running h ≡ count.running
  pub last : last_failure h ≡ count.last
  pub fails : (t : ℕ) → min (failures t h) (limit + short_waits) ≡ remembered_failures count t
  pub past : count.last ≤ now
  pub paced : Paced limit count now

-- the failures that count only become fewer as time passes
counted_later : (count : Count) (now t : ℕ) → now ≤ t → (remembered_failures count t ≡ 0) ⊎ (remembered_failures count t ≡ remembered_failures count now)
counted_later count now t later = grind (arith, nat_tests)

paced_later : (limit : ℕ) (count : Count) (now t : ℕ) → now ≤ t → Paced limit count now → Paced limit count t
paced_later limit count now t later paced = at (counted_later count now t later)
  where
    at : (remembered_failures count t ≡ 0) ⊎ (remembered_failures count t ≡ remembered_failures count now) → Paced limit count t
    at (inl none) = (paced.0, inl (omega (arith, paced.0)))
    at (inr same) = (paced.0, moved paced.1)
      where
        moved : (remembered_failures count now + count.running ≤ limit) ⊎ ((count.running ≤ 1) × (count.running ≡ 1 → count.last + wait (remembered_failures count now - limit) ≤ now))
            → (remembered_failures count t + count.running ≤ limit) ⊎ ((count.running ≤ 1) × (count.running ≡ 1 → count.last + wait (remembered_failures count t - limit) ≤ t))
        moved (inl few) = inl (omega arith)
        moved (inr alone) = inr (alone.0, λ one. let w : wait (remembered_failures count t - limit) ≡ wait (remembered_failures count now - limit) = ap (λ n. wait (n - limit)) same in let was : count.last + wait (remembered_failures count now - limit) ≤ now = alone.1 one in omega (arith, w, was, later))

-- the counts allow a try
abbrev May : ℕ → Count → ℕ → Type 0
May limit count t =
    (remembered_failures count t + count.running < limit) ⊎ ((count.running ≡ 0) × (count.last + wait (remembered_failures count t - limit) ≤ t))

abbrev Answered : ℕ → Count → ℕ → Place → Type 0
Answered limit count t Free = May limit count t
Answered limit count t _ = May limit count t → ⊥

module _ (limit : ℕ) (count : Count) (t : ℕ) where
  answered_if : (a b c d : Bool) → nat_lt (remembered_failures count t) limit ≡ a → nat_lt (remembered_failures count t + count.running) limit ≡ b → nat_lt 0 count.running ≡ c → nat_lt 0 (rest_of limit count t) ≡ d
      → Answered limit count t (if a then (if b then Free else Taken) else (if c then Taken else (if d then Early (rest_of limit count t) else Free)))
  answered_if true true c d p q r s = inl (grind (arith, nat_tests))
  answered_if true false c d p q r s = λ may. not_few may
    where
      many : limit ≤ remembered_failures count t + count.running
      many = grind (arith, nat_tests)

      low : remembered_failures count t < limit
      low = grind (arith, nat_tests)

      not_few : May limit count t → ⊥
      not_few (inl few) = omega (arith, few, many)
      not_few (inr alone) = omega (arith, alone.0, many, low)
  answered_if false b true d p q r s = λ may. not_few may
    where
      high : limit ≤ remembered_failures count t
      high = grind (arith, nat_tests)

      some : 0 < count.running
      some = grind (arith, nat_tests)

      not_few : May limit count t → ⊥
      not_few (inl few) = omega (arith, few, high)
      not_few (inr alone) = omega (arith, alone.0, some)
  answered_if false b false true p q r s = λ may. not_few may
    where
      high : limit ≤ remembered_failures count t
      high = grind (arith, nat_tests)

      early : 0 < rest_of limit count t
      early = grind (arith, nat_tests)

      not_few : May limit count t → ⊥
      not_few (inl few) = omega (arith, few, high)
      not_few (inr alone) = omega (arith, alone.1, early)
  answered_if false b false false p q r s =
      let none : count.running ≡ 0 = grind (arith, nat_tests) in
      let over : rest_of limit count t ≤ 0 = grind (arith, nat_tests) in
      inr (none, omega (arith, over, wait_pos (remembered_failures count t - limit)))

  answered : Answered limit count t (place_of limit count t)
  answered = answered_if _ _ _ _ refl refl refl refl

module _ (limit : ℕ) (count : Count) (h : List Event) (now : ℕ) (tells : Tells limit count h now) (t : ℕ) where
  pub same_wait : wait (remembered_failures count t - limit) ≡ wait (failures t h - limit)
  same_wait = ap (λ n. wait (n - limit)) (sym (tells.fails t)) ∙ wait_capped limit (failures t h)

  may_of : MayBegin limit t h → May limit count t
  may_of (inl few) = inl (omega (arith, few, tells.runs, tells.fails t))
  may_of (inr alone) = inr (omega (arith, alone.0, tells.runs), omega (arith, alone.1, tells.last, same_wait))

  may_by : May limit count t → MayBegin limit t h
  may_by (inl few) = inl (omega (arith, few, tells.runs, tells.fails t))
  may_by (inr alone) = inr (omega (arith, alone.0, tells.runs), omega (arith, alone.1, tells.last, same_wait))

  -- time passes
  later : now ≤ t → Tells limit count h t
  later after = record {
    runs = tells.runs;
    last = tells.last;
    fails = tells.fails;
    past = omega (arith, tells.past, after);
    paced = paced_later limit count now t after tells.paced;
  }

-- ---- each call

-- a history is limited, and the counts are those of it
abbrev Told : ℕ → Count → List Event → ℕ → Type 0
Told limit count h t = IsLimited limit h × Tells limit count h t

module _ (limit : ℕ) (some : 0 < limit) (count : Count) (h : List Event) (t : ℕ) (tells : Tells limit count h t) (was : IsLimited limit h) where
  begun : May limit count t → Paced limit (count_begun count) t
  begun (inl few) = (omega (arith, few), inl (omega (arith, few)))
  begun (inr alone) = (omega (arith, alone.0, some), inr (omega (arith, alone.0), λ one. alone.1))

  told_place : (place : Place) → Answered limit count t place → Told limit (begun_if count place) (begin_event place t ∷ h) t
  told_place Free may = (
    (may_by limit count h t tells t may, was),
    record {
      runs = ap (λ n. n + 1) tells.runs;
      last = tells.last;
      fails = tells.fails;
      past = tells.past;
      paced = begun may;
    },
  )
  told_place Taken not = (
    (λ may. not (may_of limit count h t tells t may), was),
    record { runs = tells.runs; last = tells.last; fails = tells.fails; past = tells.past; paced = tells.paced },
  )
  told_place (Early n) not = (
    (λ may. not (may_of limit count h t tells t may), was),
    record { runs = tells.runs; last = tells.last; fails = tells.fails; past = tells.past; paced = tells.paced },
  )

  told_begin : Told limit (begun_if count (place_of limit count t)) (begin_event (place_of limit count t) t ∷ h) t
  told_begin = told_place _ (answered limit count t)

  -- a try ends if one runs
  module _ (one : 0 < count.running) where
    runs_here : 0 < running h
    runs_here = omega (arith, one, tells.runs)

    waited : limit ≤ failures t h → HasWaited limit t h
    waited many = at tells.paced.1
      where
        at : (remembered_failures count t + count.running ≤ limit) ⊎ ((count.running ≤ 1) × (count.running ≡ 1 → count.last + wait (remembered_failures count t - limit) ≤ t)) → HasWaited limit t h
        at (inl few) = absurd (omega (arith, few, one, many, tells.fails t))
        at (inr alone) =
            let is : count.running ≡ 1 = omega (arith, alone.0, one) in
            omega (arith, alone.1 is, tells.last, same_wait limit count h t tells t)

    fewer : (remembered_failures count t + count.running ≤ limit) ⊎ ((count.running ≤ 1) × (count.running ≡ 1 → count.last + wait (remembered_failures count t - limit) ≤ t))
        → (n : ℕ) → n ≤ remembered_failures count t + 1 → (n + (count.running - 1) ≤ limit) ⊎ (count.running - 1 ≡ 0)
    fewer (inl few) n least = inl (omega (arith, few, one, least))
    fewer (inr alone) n least = inr (omega (arith, alone.0))

    paced_end : (after : Count) → after.running ≡ count.running - 1 → remembered_failures after t ≤ remembered_failures count t + 1 → Paced limit after t
    paced_end after runs least = (omega (arith, runs, tells.paced.0), at (fewer tells.paced.1 _ least))
      where
        at : (remembered_failures after t + (count.running - 1) ≤ limit) ⊎ (count.running - 1 ≡ 0)
            → (remembered_failures after t + after.running ≤ limit) ⊎ ((after.running ≤ 1) × (after.running ≡ 1 → after.last + wait (remembered_failures after t - limit) ≤ t))
        at (inl few) = inl (omega (arith, few, runs))
        at (inr none) = inr (omega (arith, none, runs), λ one. absurd (omega (arith, none, runs, one)))

    told_ended : (how : Ending) → Told limit (count_ended_as limit count t how) (end_event how t ∷ h) t
    told_ended ending.Wrong = (
      ((runs_here, omega (arith, tells.past, tells.last), waited), was),
      record {
        runs = ap (λ n. n - 1) tells.runs;
        last = refl;
        fails = λ s. failed_at s (nat_le (t + day) s);
        past = here;
        paced = paced_end (count_ended_as limit count t ending.Wrong) refl failed_least;
      },
    )
      where
        failed_at : (s : ℕ) (b : Bool) → min (if b then 0 else failures t h + 1) (limit + short_waits) ≡ (if b then 0 else min (remembered_failures count t + 1) (limit + short_waits))
        failed_at s true = omega arith
        failed_at s false = omega (arith, tells.fails t)

        here : t ≤ t
        here = omega arith

        least : (b : Bool) → (if b then 0 else min (remembered_failures count t + 1) (limit + short_waits)) ≤ remembered_failures count t + 1
        least true = omega arith
        least false = omega arith

        failed_least : remembered_failures (count_ended_as limit count t ending.Wrong) t ≤ remembered_failures count t + 1
        failed_least = least (nat_le (t + day) t)
    told_ended ending.Right = (
      (runs_here, was),
      record {
        runs = ap (λ n. n - 1) tells.runs;
        last = refl;
        fails = λ s. none_counted s;
        past = omega arith;
        paced = paced_end (count_ended_as limit count t ending.Right) refl right_least;
      },
    )
      where
        none_counted : (s : ℕ) → min 0 (limit + short_waits) ≡ remembered_failures (count_ended_as limit count t ending.Right) s
        none_counted s = grind (arith, nat_tests)

        right_least : remembered_failures (count_ended_as limit count t ending.Right) t ≤ remembered_failures count t + 1
        right_least = omega (arith, none_counted t)
    told_ended ending.Unjudged = (
      (runs_here, was),
      record {
        runs = ap (λ n. n - 1) tells.runs;
        last = tells.last;
        fails = tells.fails;
        past = tells.past;
        paced = paced_end (count_ended_as limit count t ending.Unjudged) refl unjudged_least;
      },
    )
      where
        unjudged_least : remembered_failures count t ≤ remembered_failures count t + 1
        unjudged_least = omega arith

  told_end_if : (how : Ending) (b : Bool) → nat_lt 0 count.running ≡ b
      → Told limit (if b then count_ended_as limit count t how else count) (if b then end_event how t ∷ h else h) t
  told_end_if how true is = told_ended (grind (arith, nat_tests)) how
  told_end_if how false is = (was, tells)

  told_forgiven : Told limit (count_forgiven count) (Forgiven t ∷ h) t
  told_forgiven = (
    (tt, was),
    record {
      runs = tells.runs;
      last = refl;
      fails = λ s. none_counted s;
      past = omega arith;
      paced = (tells.paced.0, inl (omega (arith, tells.paced.0, none_counted t)));
    },
  )
    where
      none_counted : (s : ℕ) → min 0 (limit + short_waits) ≡ remembered_failures (count_forgiven count) s
      none_counted s = grind (arith, nat_tests)

  abbrev After : Call → Type 0
  After call = Told limit (count_after_call limit count call) (with_event limit count call h) t

  told : (call : Call) → time_of call ≡ t → After call
  told (Begin s) is = subst (λ s. After (Begin s)) (sym is) told_begin
  told (End s how) is = subst (λ s. After (End s how)) (sym is) (told_end_if how _ refl)
  told (Forgive s) is = subst (λ s. After (Forgive s)) (sym is) told_forgiven

-- ---- all calls

-- no call comes before the one before it
abbrev pub Ascend : List Call → Type 0
Ascend [] = ⊤
Ascend (call ∷ []) = ⊤
Ascend (call ∷ (other ∷ before)) = (time_of other ≤ time_of call) × Ascend (other ∷ before)

-- the last call came by then
abbrev pub Until : ℕ → List Call → Type 0
Until now [] = ⊤
Until now (call ∷ before) = time_of call ≤ now

tells_nothing : (limit t : ℕ) → Tells limit nothing [] t
tells_nothing limit t = record {
  runs = refl;
  last = refl;
  fails = λ s. none_counted s;
  past = omega arith;
  paced = (omega arith, inl (omega (arith, none_counted t)));
}
  where
    none_counted : (s : ℕ) → min 0 (limit + short_waits) ≡ remembered_failures nothing s
    none_counted s = grind (arith, nat_tests)

module _ (limit : ℕ) (some : 0 < limit) where
  all_told : (call : Call) (before : List Call) → Ascend (call ∷ before)
      → Told limit (count_after limit (call ∷ before)) (history limit (call ∷ before)) (time_of call)
  all_told call [] ascend = told limit some nothing [] (time_of call) (tells_nothing limit (time_of call)) tt call refl
  all_told call (other ∷ before) ascend =
      let was = all_told other before ascend.1 in
      told limit some (count_after limit (other ∷ before)) (history limit (other ∷ before)) (time_of call) (later limit _ _ (time_of other) was.1 (time_of call) ascend.0) was.0 call refl

  pub tells_all : (calls : List Call) → Ascend calls → (t : ℕ) → Until t calls → Tells limit (count_after limit calls) (history limit calls) t
  tells_all [] ascend t past = tells_nothing limit t
  tells_all (call ∷ before) ascend t past = later limit _ _ (time_of call) (all_told call before ascend).1 t past

  pub limited : (calls : List Call) → Ascend calls → IsLimited limit (history limit calls)
  limited [] ascend = tt
  limited (call ∷ before) ascend = (all_told call before ascend).0
