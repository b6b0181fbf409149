-- The count at a name after a step there, or at another name.
use Rattle.std.proofs.Common.{◌≡◌, ℕ, Bool, true, false, cond, List, Option, Some, None, Ordering, Equal, is_eq, refl, ap, ◌∙◌, arith}
use Rattle.std.specs.Prelude.{◌==◌, ◌&&◌, if◌then◌else◌, unwrap_or}
use Rattle.std.specs.{Cmp.eq_by_cmp_equiv, Cmp.Lexicographic.nat_list_cmp_total}
use Rattle.std.specs.FinMap as map
use Rattle.std.proofs.lemmas.Bool.Decides.{nat_tests}
use Rattle.cred_book.specs.Names.{name_cmp}
use Rattle.cred_book.proofs.Rows.{same_names}
use Rattle.cred_tries.specs.Clocks.{moment}
use Rattle.cred_tries.specs.CountMaps.{CountMap, count_of, with_count}
use Rattle.cred_tries.specs.Counts.{count_begun, count_ended, count_forgiven, is_nothing, nothing}
use Rattle.cred_tries.specs.Histories.{begun_if}
use Rattle.cred_tries.specs.Limits.{Limits, after_end, begin_outcome, count_at, counts_at, counts_ended, forgive_outcome, forgiveness, place_at}
use Rattle.cred_tries.specs.Steps.{Asks, Ends, Forgives, Step, after_step, is_name_of, step_name}
use Rattle.cred_tries.specs.declared.count.Count.{Count}
use Rattle.cred_tries.specs.declared.count.Place.{Place}
use Rattle.cred_tries.specs.declared.count.Place.TheVariants.{Free, Taken, Early}
use Rattle.cred_tries.specs.declared.turn.Ending.{Ending}

-- names that tie are equal
same_by : (a b : List ℕ) (o : Ordering) → name_cmp a b ≡ o → is_eq o ≡ true → a ≡ b
same_by a b Equal tie is = same_names a b tie
same_by a b _ other is = absurd cc

pub same_name : (a b : List ℕ) → is_name_of a b ≡ true → a ≡ b
same_name a b is = same_by a b (name_cmp a b) refl is

pub itself : (name : List ℕ) → is_name_of name name ≡ true
itself name = (eq_by_cmp_equiv nat_list_cmp_total).refl name

-- ---- a count is put

made : ℕ → ℕ → ℕ → Count
made failed running last = record { failed = failed; running = running; last = last }

all_zero : (f r l : ℕ) → ((f == 0) && ((r == 0) && (l == 0))) ≡ true → (f ≡ 0) × (r ≡ 0) × (l ≡ 0)
all_zero f r l is = (grind (arith, nat_tests), grind (arith, nat_tests), grind (arith, nat_tests))

nothing_made : (f r l : ℕ) → (f ≡ 0) × (r ≡ 0) × (l ≡ 0) → made f r l ≡ nothing
unfolding made
nothing_made f r l zero = ap (λ n. made n r l) zero.0 ∙ ap (λ n. made 0 n l) zero.1 ∙ ap (λ n. made 0 0 n) zero.2

is_counted_nothing : (count : Count) → is_nothing count ≡ true → count ≡ nothing
unfolding made
is_counted_nothing count is = nothing_made count.failed count.running count.last (all_zero count.failed count.running count.last is)

module _ (counts : CountMap) (name : List ℕ) where
  -- the count that is found at a name if this is put there, or nothing is
  abbrev found_if : Option Count → Bool → Count
  found_if put here = unwrap_or (cond here put (map.get counts name)) nothing

  get_inserted : (other : List ℕ) (count : Count) → count_of (map.insert counts other count) name ≡ found_if (Some count) (is_name_of name other)
  get_inserted other count = ap (λ found. unwrap_or found nothing) (map.get-insert nat_list_cmp_total counts other count name)

  get_removed : (other : List ℕ) → count_of (map.remove counts other) name ≡ found_if None (is_name_of name other)
  get_removed other = ap (λ found. unwrap_or found nothing) (map.get-remove nat_list_cmp_total counts other name)

  put_here : (count : Count) (b : Bool) → is_nothing count ≡ b
      → count_of (if b then map.remove counts name else map.insert counts name count) name ≡ count
  put_here count true none = get_removed name ∙ ap (found_if None) (itself name) ∙ other_way
    where
      other_way : nothing ≡ count
      other_way = let is : count ≡ nothing = is_counted_nothing count none in cc
  put_here count false some = get_inserted name count ∙ ap (found_if (Some count)) (itself name)

  pub with_here : (count : Count) → count_of (with_count counts name count) name ≡ count
  with_here count = put_here count (is_nothing count) refl

  module _ (other : List ℕ) (apart : is_name_of name other ≡ false) where
    pub inserted_apart : (count : Count) → count_of (map.insert counts other count) name ≡ count_of counts name
    inserted_apart count = get_inserted other count ∙ ap (found_if (Some count)) apart

    put_apart : (count : Count) (b : Bool) → count_of (if b then map.remove counts other else map.insert counts other count) name ≡ count_of counts name
    put_apart count true = get_removed other ∙ ap (found_if None) apart
    put_apart count false = inserted_apart count

    pub with_apart : (count : Count) → count_of (with_count counts other count) name ≡ count_of counts name
    with_apart count = put_apart count (is_nothing count)

-- ---- a step is made at the name

module _ (limits : Limits) (name : List ℕ) where
  begun_here : (place : Place) → count_of (counts_at limits.counts name (count_at limits name) place) name ≡ begun_if (count_at limits name) place
  begun_here Free = get_inserted limits.counts name name (count_begun (count_at limits name)) ∙ ap (found_if limits.counts name (Some (count_begun (count_at limits name)))) (itself name)
  begun_here Taken = refl
  begun_here (Early seconds) = refl

  pub asked_here : (now : ℕ) → count_at (begin_outcome limits name now).1 name ≡ begun_if (count_at limits name) (place_at limits name now)
  asked_here now = begun_here (place_at limits name now)

  ended_found : (now : ℕ) (how : Ending) (found : Option Count) → map.get limits.counts name ≡ found
      → count_of (counts_ended limits name now how found) name ≡ count_ended limits.limit (unwrap_or found nothing) (moment limits.clock now) how
  ended_found now how None is = ap (λ found. unwrap_or found nothing) is
  ended_found now how (Some count) is = with_here limits.counts name (count_ended limits.limit count (moment limits.clock now) how)

  pub ended_here : (now : ℕ) (how : Ending) → count_at (after_end limits name now how) name ≡ count_ended limits.limit (count_at limits name) (moment limits.clock now) how
  ended_here now how = ended_found now how (map.get limits.counts name) refl

  forgiven_found : (found : Option Count) → map.get limits.counts name ≡ found
      → count_of (forgiveness limits name found).1.counts name ≡ count_forgiven (unwrap_or found nothing)
  forgiven_found None is = ap (λ found. unwrap_or found nothing) is
  forgiven_found (Some count) is = with_here limits.counts name (count_forgiven count)

  pub forgiven_here : count_at (forgive_outcome limits name).1 name ≡ count_forgiven (count_at limits name)
  forgiven_here = forgiven_found (map.get limits.counts name) refl

-- ---- a step is made at another name

module _ (limits : Limits) (name other : List ℕ) (apart : is_name_of name other ≡ false) where
  begun_apart : (count : Count) (place : Place) → count_of (counts_at limits.counts other count place) name ≡ count_of limits.counts name
  begun_apart count Free = inserted_apart limits.counts name other apart (count_begun count)
  begun_apart count Taken = refl
  begun_apart count (Early seconds) = refl

  ended_apart : (now : ℕ) (how : Ending) (found : Option Count) → count_of (counts_ended limits other now how found) name ≡ count_of limits.counts name
  ended_apart now how None = refl
  ended_apart now how (Some count) = with_apart limits.counts name other apart (count_ended limits.limit count (moment limits.clock now) how)

  forgiven_apart : (found : Option Count) → count_of (forgiveness limits other found).1.counts name ≡ count_of limits.counts name
  forgiven_apart None = refl
  forgiven_apart (Some count) = with_apart limits.counts name other apart (count_forgiven count)

-- a step at another name changes nothing at this one
pub apart_stays : (limits : Limits) (name : List ℕ) (step : Step) → is_name_of name (step_name step) ≡ false
    → count_at (after_step limits step) name ≡ count_at limits name
apart_stays limits name (Asks other now) apart = begun_apart limits name other apart (count_at limits other) (place_at limits other now)
apart_stays limits name (Ends other now how) apart = ended_apart limits name other apart now how (map.get limits.counts other)
apart_stays limits name (Forgives other) apart = forgiven_apart limits name other apart (map.get limits.counts other)
