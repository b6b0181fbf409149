-- The waits of a limited history after a stretch of failing.
use Rattle.std.proofs.Common.{◌≡◌, ◌⊎◌, inl, inr, ◌≤◌, ◌<◌, ℕ, ◌+◌, ◌-◌, ◌^◌, Bool, true, false, if◌then◌else◌, List, [], ◌∷◌, ◌++◌, refl, arith, subst, lit<}
use Rattle.std.specs.Prelude.{nat_le}
use Rattle.std.proofs.Math.Nat.{pow-le-pow_right}
use Rattle.std.proofs.lemmas.Bool.Decides.{leb_tells, nat_tests}
use Rattle.std.proofs.Math.Dec.{leb}
use Rattle.cred_tries.specs.Counts.{day, wait}
use Rattle.cred_tries.specs.Histories.{Event, Begun, Sent, Right, Wrong, Unjudged, Forgiven, HasWaited, IsLimited, IsRightAfter, MayBegin, failures, last_failure, running}
use Rattle.cred_tries.specs.Stretches.{FailsBehind, IsFailing, QuietBegins, WaitsBehind, begun, failed}

-- longer for more failures
wait_more : (i j : ℕ) → i ≤ j → wait i ≤ wait j
unfolding wait
wait_more i j more = let powers : 2 ^ i ≤ 2 ^ j = pow-le-pow_right (lit< tt) more in omega (arith, powers)

-- a failure within the day counts
one_more : (now t n m : ℕ) → now < t + day → n ≤ m → n + 1 ≤ (if nat_le (t + day) now then 0 else m + 1)
one_more now t n m new le = at (nat_le (t + day) now) refl
  where
    at : (b : Bool) → nat_le (t + day) now ≡ b → n + 1 ≤ (if b then 0 else m + 1)
    at true old = let late : t + day ≤ now = grind (arith, nat_tests) in absurd (omega (arith, late, new))
    at false is = omega (arith, le)

module _ (before : List Event) where
  -- the failures of a stretch count
  fails : (now : ℕ) (stretch : List Event) → IsFailing now stretch → failed stretch ≤ failures now (stretch ++ before)
  fails now [] is = omega arith
  fails now (Wrong t ∷ rest) is = one_more now t _ _ is.0 (fails t rest is.1)
  fails now (Right t ∷ rest) is = absurd is
  fails now (Forgiven t ∷ rest) is = absurd is
  fails now (Begun t ∷ rest) is = fails now rest is
  fails now (Unjudged t ∷ rest) is = fails now rest is
  fails now (Sent t seconds ∷ rest) is = fails now rest is

  -- the tries of a stretch failed, or run
  runs : (now : ℕ) (stretch : List Event) → IsFailing now stretch → begun stretch ≤ failed stretch + running (stretch ++ before)
  runs now [] is = omega arith
  runs now (Wrong t ∷ rest) is = omega (arith, runs t rest is.1)
  runs now (Right t ∷ rest) is = absurd is
  runs now (Forgiven t ∷ rest) is = absurd is
  runs now (Begun t ∷ rest) is = omega (arith, runs now rest is)
  runs now (Unjudged t ∷ rest) is = omega (arith, runs now rest is)
  runs now (Sent t seconds ∷ rest) is = runs now rest is

  -- if a stretch has failures, its last failure is the last of all
  last : (now : ℕ) (stretch : List Event) → IsFailing now stretch → 0 < failed stretch → last_failure (stretch ++ before) ≡ last_failure stretch
  last now [] is some = absurd (omega (arith, some))
  last now (Wrong t ∷ rest) is some = refl
  last now (Right t ∷ rest) is some = absurd is
  last now (Forgiven t ∷ rest) is some = absurd is
  last now (Begun t ∷ rest) is some = last now rest is some
  last now (Unjudged t ∷ rest) is some = last now rest is some
  last now (Sent t seconds ∷ rest) is some = last now rest is some

  behind : (limit now : ℕ) (stretch : List Event) → 0 < limit → MayBegin limit now (stretch ++ before) → IsFailing now stretch
      → (limit ≤ failed stretch) ⊎ (limit ≤ begun stretch)
      → (limit ≤ failed stretch) × (last_failure stretch + wait (failed stretch - limit) ≤ now)
  behind limit now stretch some (inl few) is (inl many) = absurd (omega (arith, few, many, fails now stretch is))
  behind limit now stretch some (inl few) is (inr many) = absurd (omega (arith, few, many, fails now stretch is, runs now stretch is))
  behind limit now stretch some (inr alone) is many = (enough, omega (arith, alone.1, last now stretch is positive, wait_more _ _ more))
    where
      enough_by : (limit ≤ failed stretch) ⊎ (limit ≤ begun stretch) → limit ≤ failed stretch
      enough_by (inl all) = all
      enough_by (inr all) = omega (arith, all, alone.0, runs now stretch is)

      enough : limit ≤ failed stretch
      enough = enough_by many

      positive : 0 < failed stretch
      positive = omega (arith, enough, some)

      more : failed stretch - limit ≤ failures now (stretch ++ before) - limit
      more = omega (arith, fails now stretch is)

-- a part of a history is limited too
part : (limit : ℕ) (later : List Event) (event : Event) (before : List Event) → IsLimited limit (later ++ (event ∷ before)) → IsRightAfter limit event before
part limit [] event before is = is.0
part limit (other ∷ later) event before is = part limit later event before is.1

pub waits_behind : (limit : ℕ) (history : List Event) → 0 < limit → IsLimited limit history → WaitsBehind limit history
waits_behind limit history some limited later stretch before t is failing many =
    behind before limit t stretch some (part limit later (Begun t) (stretch ++ before) (subst (λ h. IsLimited limit h) is limited)) failing many

pub fails_behind : (limit : ℕ) (history : List Event) → 0 < limit → IsLimited limit history → FailsBehind limit history
fails_behind limit history some limited later stretch before t is failing many =
    late ((part limit later (Wrong t) (stretch ++ before) (subst (λ h. IsLimited limit h) is limited)).2 (omega (arith, many, fails before t stretch failing)))
  where
    positive : 0 < failed stretch
    positive = omega (arith, many, some)

    more : failed stretch - limit ≤ failures t (stretch ++ before) - limit
    more = omega (arith, fails before t stretch failing)

    late : HasWaited limit t (stretch ++ before) → last_failure stretch + wait (failed stretch - limit) ≤ t
    late over = omega (arith, over, last before t stretch failing positive, wait_more _ _ more)

few_begin : (limit t : ℕ) (before : List Event) → failures t before ≡ 0 → (MayBegin limit t before → ⊥) → limit ≤ running before
few_begin limit t before none not = at (leb_tells limit (running before))
  where
    at : ((leb limit (running before) ≡ true) × (limit ≤ running before)) ⊎ ((leb limit (running before) ≡ false) × (running before < limit)) → limit ≤ running before
    at (inl many) = many.1
    at (inr few) = absurd (not (inl (omega (arith, none, few.1))))

pub quiet_begins : (limit : ℕ) (history : List Event) → IsLimited limit history → QuietBegins limit history
quiet_begins limit history limited later before t seconds is none =
    few_begin limit t before none (part limit later (Sent t seconds) before (subst (λ h. IsLimited limit h) is limited))
