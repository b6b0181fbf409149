-- The facts of a history that its judgements alone tell.
use Rattle.std.proofs.Common.{◌≡◌, ◌≤◌, ℕ, ◌+◌, ◌-◌, List, [], ◌∷◌, ◌++◌, refl, sym, ap, ◌∙◌, subst}
use Rattle.std.specs.Prelude.{◌/◌, if◌then◌else◌, nat_le}
use Rattle.cred_tries.specs.Counts.{day, longest_wait, short_waits}
use Rattle.cred_tries.specs.Histories.{Event, Begun, Sent, Right, Wrong, Unjudged, Forgiven, failures, last_failure}
use Rattle.cred_tries.specs.Stretches.{FailsSeldom, IsUncleared, failed, first_failure, judgements}

-- the events are cut in two where their judgements are
abbrev Cut : List Event → List Event → List Event → Type 0
Cut history xs ys = (later : List Event) × (before : List Event) × (history ≡ later ++ before) × (judgements later ≡ xs) × (judgements before ≡ ys)

cut_behind : (event : Event) (rest xs ys : List Event) → ((later : List Event) → judgements (event ∷ later) ≡ event ∷ judgements later)
    → ((more : List Event) → judgements rest ≡ more ++ ys → Cut rest more ys) → judgements (event ∷ rest) ≡ xs ++ ys → Cut (event ∷ rest) xs ys
cut_behind event rest [] ys is_judged deeper is = ([], event ∷ rest, refl, refl, is)
cut_behind event rest (x ∷ xs) ys is_judged deeper is =
    let all : event ∷ judgements rest ≡ x ∷ (xs ++ ys) = sym (is_judged rest) ∙ is in
    let first : event ≡ x = cc in
    let others : judgements rest ≡ xs ++ ys = cc in
    let (later, before, whole, one, two) = deeper xs others in
    let judged : event ∷ judgements later ≡ x ∷ xs = cc in
    (event ∷ later, before, ap (λ l. event ∷ l) whole, is_judged later ∙ judged, two)

cut : (history xs ys : List Event) → judgements history ≡ xs ++ ys → Cut history xs ys
cut [] [] ys is = ([], [], refl, refl, is)
cut [] (x ∷ xs) ys is = absurd cc
cut (Right t ∷ rest) xs ys is = cut_behind (Right t) rest xs ys (λ later. refl) (λ more. cut rest more ys) is
cut (Wrong t ∷ rest) xs ys is = cut_behind (Wrong t) rest xs ys (λ later. refl) (λ more. cut rest more ys) is
cut (Forgiven t ∷ rest) xs ys is = cut_behind (Forgiven t) rest xs ys (λ later. refl) (λ more. cut rest more ys) is
cut (Begun t ∷ rest) xs ys is = let (later, before, whole, one, two) = cut rest xs ys is in (Begun t ∷ later, before, ap (λ l. Begun t ∷ l) whole, one, two)
cut (Sent t seconds ∷ rest) xs ys is = let (later, before, whole, one, two) = cut rest xs ys is in (Sent t seconds ∷ later, before, ap (λ l. Sent t seconds ∷ l) whole, one, two)
cut (Unjudged t ∷ rest) xs ys is = let (later, before, whole, one, two) = cut rest xs ys is in (Unjudged t ∷ later, before, ap (λ l. Unjudged t ∷ l) whole, one, two)

same_failed : (stretch : List Event) → failed (judgements stretch) ≡ failed stretch
same_failed [] = refl
same_failed (Wrong t ∷ rest) = ap (λ n. n + 1) (same_failed rest)
same_failed (Right t ∷ rest) = same_failed rest
same_failed (Forgiven t ∷ rest) = same_failed rest
same_failed (Begun t ∷ rest) = same_failed rest
same_failed (Sent t seconds ∷ rest) = same_failed rest
same_failed (Unjudged t ∷ rest) = same_failed rest

pub same_failures : (history : List Event) (now : ℕ) → failures now (judgements history) ≡ failures now history
same_failures [] now = refl
same_failures (Wrong t ∷ rest) now = ap (λ n. if nat_le (t + day) now then 0 else n + 1) (same_failures rest t)
same_failures (Right t ∷ rest) now = refl
same_failures (Forgiven t ∷ rest) now = refl
same_failures (Begun t ∷ rest) now = same_failures rest now
same_failures (Sent t seconds ∷ rest) now = same_failures rest now
same_failures (Unjudged t ∷ rest) now = same_failures rest now

pub same_last : (stretch : List Event) → last_failure (judgements stretch) ≡ last_failure stretch
same_last [] = refl
same_last (Wrong t ∷ rest) = refl
same_last (Right t ∷ rest) = refl
same_last (Forgiven t ∷ rest) = refl
same_last (Begun t ∷ rest) = same_last rest
same_last (Sent t seconds ∷ rest) = same_last rest
same_last (Unjudged t ∷ rest) = same_last rest

same_first : (stretch : List Event) → first_failure (judgements stretch) ≡ first_failure stretch
same_first [] = refl
same_first (Wrong t ∷ rest) = rw (same_failed rest, same_first rest) refl
same_first (Right t ∷ rest) = same_first rest
same_first (Forgiven t ∷ rest) = same_first rest
same_first (Begun t ∷ rest) = same_first rest
same_first (Sent t seconds ∷ rest) = same_first rest
same_first (Unjudged t ∷ rest) = same_first rest

uncleared : (stretch : List Event) → IsUncleared (judgements stretch) → IsUncleared stretch
uncleared [] is = is
uncleared (Wrong t ∷ rest) is = uncleared rest is
uncleared (Right t ∷ rest) is = absurd is
uncleared (Forgiven t ∷ rest) is = absurd is
uncleared (Begun t ∷ rest) is = uncleared rest is
uncleared (Sent t seconds ∷ rest) is = uncleared rest is
uncleared (Unjudged t ∷ rest) is = uncleared rest is

pub ends_seldom : (limit : ℕ) (history : List Event) → FailsSeldom limit history → FailsSeldom limit (judgements history)
ends_seldom limit history seldom later stretch before is clear =
    let (after, rest, whole, one, two) = cut history later (stretch ++ before) is in
    let (here, behind, halves, same, three) = cut rest stretch before two in
    let few = seldom after here behind (whole ∙ ap (λ l. after ++ l) halves) (uncleared here (subst IsUncleared (sym same) clear)) in
    subst (λ (s : List Event). failed s ≤ limit + short_waits + (last_failure s - first_failure s) / longest_wait) same (rw (same_failed here, same_last here, same_first here) few)
