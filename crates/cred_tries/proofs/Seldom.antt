-- The number of tries that fail while nothing clears the failures.
use Rattle.std.proofs.Common.{◌≡◌, ◌⊎◌, inl, inr, ◌≤◌, ◌<◌, ℕ, ◌+◌, ◌-◌, ◌*◌, Bool, true, false, if◌then◌else◌, List, [], ◌∷◌, ◌++◌, refl, sym, arith, subst}
use Rattle.std.specs.Prelude.{◌/◌, nat_le, nat_lt}
use Rattle.std.proofs.Math.Dec.{leb}
use Rattle.std.proofs.lemmas.Bool.Decides.{leb_tells, nat_tests}
use Rattle.cred_tries.specs.Counts.{day, longest_wait, most_tries, short_waits, wait}
use Rattle.cred_tries.specs.Histories.{Event, Begun, Sent, Right, Wrong, Unjudged, Forgiven, IsLimited, IsRightAfter, failures, last_failure}
use Rattle.cred_tries.specs.Stretches.{FailsSeldom, IsUncleared, failed, first_failure}
use Rattle.cred_tries.proofs.Waited.{wait_far}

-- the failures in a row at the end of a stretch
abbrev in_a_row : List Event → ℕ
in_a_row [] = 0
in_a_row (Wrong t ∷ before) = (if nat_le (last_failure before + day) t then 0 else in_a_row before) + 1
in_a_row (Begun t ∷ before) = in_a_row before
in_a_row (Right t ∷ before) = in_a_row before
in_a_row (Unjudged t ∷ before) = in_a_row before
in_a_row (Sent t seconds ∷ before) = in_a_row before
in_a_row (Forgiven t ∷ before) = in_a_row before

-- the bound of a stretch: the failures, with those that may still come before the longest wait
pub record IsKept (limit n row last first : ℕ) : Type 0 where
  pub some : 0 < n
  pub ordered : first ≤ last
  pub rate : longest_wait * (n + (limit + short_waits - row)) ≤ longest_wait * (limit + short_waits) + (last - first)

abbrev Kept : ℕ → List Event → Type 0
Kept limit stretch =
    ((failed stretch ≡ 0) × (in_a_row stretch ≡ 0)) ⊎ IsKept limit (failed stretch) (in_a_row stretch) (last_failure stretch) (first_failure stretch)

-- one failure more: the first, one after a day, or one after another
kept_first : (limit row t first : ℕ) → row ≡ 1 → first ≡ t → IsKept limit 1 row t first
kept_first limit row t first one same = record {
  some = omega arith;
  ordered = omega (arith, same);
  rate = omega (arith, one, same);
}

kept_late : (limit n row last first t : ℕ) → limit ≤ most_tries → IsKept limit n row last first → last + day ≤ t → IsKept limit (n + 1) 1 t first
kept_late limit n row last first t few kept late = record {
  some = omega arith;
  ordered = omega (arith, kept.ordered, late);
  rate = omega (arith, few, kept.rate, kept.ordered, late);
}

kept_soon : (limit n row last first t : ℕ) → IsKept limit n row last first → last ≤ t → row < limit + short_waits → IsKept limit (n + 1) (row + 1) t first
kept_soon limit n row last first t kept after few = record {
  some = omega arith;
  ordered = omega (arith, kept.ordered, after);
  rate = omega (arith, kept.rate, kept.ordered, after, few);
}

kept_slow : (limit n row last first t : ℕ) → IsKept limit n row last first → last + longest_wait ≤ t → limit + short_waits ≤ row → IsKept limit (n + 1) (row + 1) t first
kept_slow limit n row last first t kept after many = record {
  some = omega arith;
  ordered = omega (arith, kept.ordered, after);
  rate = omega (arith, kept.rate, kept.ordered, after, many);
}

module _ (before : List Event) where
  -- the failures in a row in a stretch count
  in_row : (t : ℕ) (stretch : List Event) → IsUncleared stretch
      → (if nat_le (last_failure stretch + day) t then 0 else in_a_row stretch) ≤ failures t (stretch ++ before)
  in_row t [] is = nothing (nat_le day t)
    where
      nothing : (b : Bool) → (if b then 0 else 0) ≤ failures t before
      nothing true = omega arith
      nothing false = omega arith
  in_row t (Wrong s ∷ rest) is = longer (nat_le (s + day) t) _ _ (in_row s rest is)
    where
      longer : (b : Bool) (n m : ℕ) → n ≤ m → (if b then 0 else n + 1) ≤ (if b then 0 else m + 1)
      longer true n m le = omega arith
      longer false n m le = omega (arith, le)
  in_row t (Right s ∷ rest) is = absurd is
  in_row t (Forgiven s ∷ rest) is = absurd is
  in_row t (Begun s ∷ rest) is = in_row t rest is
  in_row t (Unjudged s ∷ rest) is = in_row t rest is
  in_row t (Sent s seconds ∷ rest) is = in_row t rest is

  same_last : (stretch : List Event) → IsUncleared stretch → 0 < failed stretch → last_failure (stretch ++ before) ≡ last_failure stretch
  same_last [] is some = absurd (omega (arith, some))
  same_last (Wrong t ∷ rest) is some = refl
  same_last (Right t ∷ rest) is some = absurd is
  same_last (Forgiven t ∷ rest) is some = absurd is
  same_last (Begun t ∷ rest) is some = same_last rest is some
  same_last (Unjudged t ∷ rest) is some = same_last rest is some
  same_last (Sent t seconds ∷ rest) is some = same_last rest is some

  module _ (limit : ℕ) (few : limit ≤ most_tries) where
    -- a failure after a stretch
    one_more : (t : ℕ) (rest : List Event) → IsUncleared rest → IsRightAfter limit (Wrong t) (rest ++ before) → Kept limit rest
        → (old : Bool) → nat_le (last_failure rest + day) t ≡ old → (has : Bool) → nat_lt 0 (failed rest) ≡ has
        → IsKept limit (failed rest + 1) ((if old then 0 else in_a_row rest) + 1) t (if has then first_failure rest else t)
    one_more t rest is right (inl none) old was true some = let has : 0 < failed rest = grind (arith, nat_tests) in absurd (omega (arith, has, none.0))
    one_more t rest is right (inl none) old was false lacks = first_of_all old _ none.1
      where
        first_of_all : (old : Bool) (row : ℕ) → row ≡ 0 → IsKept limit (failed rest + 1) ((if old then 0 else row) + 1) t t
        first_of_all true row zero = subst (λ n. IsKept limit (n + 1) 1 t t) (sym none.0) (kept_first limit 1 t t refl refl)
        first_of_all false row zero = subst (λ n. IsKept limit (n + 1) (row + 1) t t) (sym none.0) (kept_first limit (row + 1) t t (omega (arith, zero)) refl)
    one_more t rest is right (inr kept) old was false lacks = let none : failed rest ≤ 0 = grind (arith, nat_tests) in absurd (omega (arith, none, kept.some))
    one_more t rest is right (inr kept) true was true some =
        let late : last_failure rest + day ≤ t = grind (arith, nat_tests) in
        kept_late limit _ _ _ _ t few kept late
    one_more t rest is right (inr kept) false was true some = at (leb_tells (limit + short_waits) (in_a_row rest))
      where
        after : last_failure rest ≤ t
        after = omega (arith, right.1, same_last rest is kept.some)

        enough : in_a_row rest ≤ failures t (rest ++ before)
        enough = let all = in_row t rest is in subst (λ b. (if b then 0 else in_a_row rest) ≤ failures t (rest ++ before)) was all

        at : ((leb (limit + short_waits) (in_a_row rest) ≡ true) × (limit + short_waits ≤ in_a_row rest)) ⊎ ((leb (limit + short_waits) (in_a_row rest) ≡ false) × (in_a_row rest < limit + short_waits))
            → IsKept limit (failed rest + 1) (in_a_row rest + 1) t (first_failure rest)
        at (inr low) = kept_soon limit _ _ _ _ t kept after low.1
        at (inl many) =
            let far : 10 ≤ failures t (rest ++ before) - limit = omega (arith, many.1, enough) in
            let above : limit ≤ failures t (rest ++ before) = omega (arith, many.1, enough) in
            let over : last_failure (rest ++ before) + wait (failures t (rest ++ before) - limit) ≤ t = right.2 above in
            let slow : last_failure rest + longest_wait ≤ t = omega (arith, over, wait_far (failures t (rest ++ before) - limit) far, same_last rest is kept.some) in
            kept_slow limit _ _ _ _ t kept slow many.1

    all_kept : (stretch : List Event) → IsUncleared stretch → IsLimited limit (stretch ++ before) → Kept limit stretch
    all_kept [] is limited = inl (refl, refl)
    all_kept (Wrong t ∷ rest) is limited = inr (one_more t rest is limited.0 (all_kept rest is limited.1) _ refl _ refl)
    all_kept (Right t ∷ rest) is limited = absurd is
    all_kept (Forgiven t ∷ rest) is limited = absurd is
    all_kept (Begun t ∷ rest) is limited = all_kept rest is limited.1
    all_kept (Unjudged t ∷ rest) is limited = all_kept rest is limited.1
    all_kept (Sent t seconds ∷ rest) is limited = all_kept rest is limited.1

rest_limited : (limit : ℕ) (later before : List Event) → IsLimited limit (later ++ before) → IsLimited limit before
rest_limited limit [] before is = is
rest_limited limit (event ∷ later) before is = rest_limited limit later before is.1

bounded : (limit : ℕ) (stretch : List Event) → Kept limit stretch
    → failed stretch ≤ limit + short_waits + (last_failure stretch - first_failure stretch) / longest_wait
bounded limit stretch (inl none) = omega (arith, none.0)
bounded limit stretch (inr kept) = omega (arith, kept.rate)

pub fails_seldom : (limit : ℕ) (history : List Event) → limit ≤ most_tries → IsLimited limit history → FailsSeldom limit history
fails_seldom limit history few limited later stretch before is uncleared =
    bounded limit stretch (all_kept before limit few stretch uncleared (rest_limited limit later (stretch ++ before) (subst (λ h. IsLimited limit h) is limited)))
