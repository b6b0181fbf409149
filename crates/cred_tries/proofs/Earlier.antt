-- The reason why a try is too early, and by how long.
use Rattle.std.proofs.Common.{◌≡◌, ◌≤◌, ◌<◌, ℕ, Bool, true, false, if◌then◌else◌, List, refl, arith}
use Rattle.std.specs.Prelude.{nat_lt}
use Rattle.std.proofs.lemmas.Bool.Decides.{nat_tests}
use Rattle.cred_tries.specs.Clocks.{moment}
use Rattle.cred_tries.specs.Counts.{place_of, remembered_failures, rest_of}
use Rattle.cred_tries.specs.Histories.{Event, count_after, history}
use Rattle.cred_tries.specs.Limits.{begin_outcome}
use Rattle.cred_tries.specs.Steps.{Step, calls_at, clock_after, events_at, limits_after}
use Rattle.cred_tries.specs.Stretches.{IsEarly, judgements}
use Rattle.cred_tries.specs.declared.count.Count.{Count}
use Rattle.cred_tries.specs.declared.count.Place.TheVariants.{Free, Taken, Early}
use Rattle.cred_tries.specs.declared.turn.Turn.TheVariants as turn
use Rattle.cred_tries.proofs.Judged.{same_failures, same_last}
use Rattle.cred_tries.proofs.Limited.{Tells, same_wait, tells_all}
use Rattle.cred_tries.proofs.Times.{goes_forward}
use Rattle.cred_tries.proofs.Traced.{ascends, early_of, later_until, told_early}

module _ (limit : ℕ) (count : Count) (t seconds : ℕ) where
  -- the facts of a count by which a try is too early
  abbrev IsFound : Type 0
  IsFound = (limit ≤ remembered_failures count t) × (rest_of limit count t ≡ seconds) × (0 < seconds)

  found_if : (a b c d : Bool) → nat_lt (remembered_failures count t) limit ≡ a → nat_lt 0 (rest_of limit count t) ≡ d
      → (if a then (if b then Free else Taken) else (if c then Taken else (if d then Early (rest_of limit count t) else Free))) ≡ Early seconds
      → IsFound
  found_if true true c d few rest is = absurd cc
  found_if true false c d few rest is = absurd cc
  found_if false b true d few rest is = absurd cc
  found_if false b false false few rest is = absurd cc
  found_if false b false true few rest is =
      let same : rest_of limit count t ≡ seconds = early_of _ _ is in
      let many : limit ≤ remembered_failures count t = grind (arith, nat_tests) in
      let some : 0 < rest_of limit count t = grind (arith, nat_tests) in
      (many, same, omega (arith, same, some))

  found : place_of limit count t ≡ Early seconds → IsFound
  found is = found_if _ _ _ _ refl refl is

  early_in : (h : List Event) → Tells limit count h t → IsFound → IsEarly limit t seconds h
  early_in h tells (many, same, some) =
      (omega (arith, many, tells.fails t), omega (arith, same, some, tells.last, tells.past, same_wait limit count h t tells t))

early_judged : (limit t seconds : ℕ) (h : List Event) → IsEarly limit t seconds h → IsEarly limit t seconds (judgements h)
early_judged limit t seconds h is = rw (same_failures h t, same_last h) is

pub early_behind : (limit : ℕ) (name : List ℕ) (steps : List Step) (now seconds : ℕ) → 0 < limit → (begin_outcome (limits_after limit steps) name now).0 ≡ turn.Later seconds
    → IsEarly limit (moment (clock_after steps) now) seconds (judgements (events_at limit name steps))
early_behind limit name steps now seconds some is =
    let t = moment (clock_after steps) now in
    let calls = calls_at name steps in
    let (ascend, until) = ascends name steps in
    let tells = tells_all limit some calls ascend t (later_until calls (clock_after steps).passed t (goes_forward steps now) until) in
    early_judged limit t seconds (history limit calls)
    (early_in limit (count_after limit calls) t seconds (history limit calls) tells (found limit (count_after limit calls) t seconds (told_early limit name steps now seconds is)))
