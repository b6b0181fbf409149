-- Entries in the order of their keys: the result of a binary search among them, and the effect of a
-- write at its place.
use Rattle.std.proofs.Common.{◌≡◌, ℕ, zero, suc, ◌+◌, ◌<◌, List, [], ◌∷◌, length, get_or, set, Some, None, Result, Ok, Err, T, Bool, true, false, not, refl, sym, ap, ◌∙◌, arith, ◌&&◌}
use Rattle.std.proofs.lemmas.{Cmp.alike_right, List.Sorted.searchable_from_sorted}
use Rattle.std.specs.{List.insert, List.remove, List.Sorted.IsSearchInRange, List.Sorted.IsBinarySearchResult}
use Rattle.std.specs.{Ordering.ordering_reverse, Ordering.is_lt, Ordering.eq_by_cmp, declared.cmp.Ordering.Ordering}
use Rattle.std.specs.{declared.cmp.Ordering.TheVariants.Less, declared.cmp.Ordering.TheVariants.Equal, declared.cmp.Ordering.TheVariants.Greater}
use Rattle.std.specs.{Cmp.IsTotalOrder, Result.MatchResult}
use Rattle.std.specs.FinMap.{find, put, is_sorted}
use Rattle.std.specs.FinMap.Entries.{below_all, where_key}
use Rattle.cred_book.specs.Places.{IsPlaceOf, IsGapFor}

first : (a b : Bool) → T (a && b) → T a
first true b h = tt
first false b h = absurd h

second : (a b : Bool) → T (a && b) → T b
second true b h = h
second false b h = absurd h

less : (o : Ordering) → T (is_lt o) → o ≡ Less
less Less h = refl
less _ h = absurd h

-- whether x is another key than q
abbrev pub other : {K : Type 0} → (K → K → Ordering) → K → K → Bool
other R q x = not (eq_by_cmp R q x)

turned : {K : Type 0} {R : K → K → Ordering} → IsTotalOrder R → (x y : K) (r : Ordering) → R x y ≡ r → R y x ≡ ordering_reverse r
turned o x y r e = o.antisymm y x ∙ ap ordering_reverse e

module _ {K X : Type 0} (R : K → K → Ordering) (o : IsTotalOrder R) where
  -- a key below all others is below the one at each place
  below_each : (x : K) (es : List (K × X)) → T (below_all R x es) → (j : ℕ) (d : K × X) → j < length es → R x (get_or es j d).0 ≡ Less
  below_each x [] h j d lt = absurd (omega arith)
  below_each x (e ∷ es) h zero d lt = less _ (first _ _ h)
  below_each x (e ∷ es) h (suc j) d lt = below_each x es (second _ _ h) j d (omega arith)

  -- the keys rise
  rises : (es : List (K × X)) → T (is_sorted R es) → (i j : ℕ) (d : K × X) → i < j → j < length es → R (get_or es i d).0 (get_or es j d).0 ≡ Less
  rises [] h i j d lt within = absurd (omega arith)
  rises (e ∷ es) h i zero d lt within = absurd (omega arith)
  rises (e ∷ es) h zero (suc j) d lt within = below_each e.0 es (first _ _ h) j d (omega arith)
  rises (e ∷ es) h (suc i) (suc j) d lt within = rises es (second _ _ h) i j d (omega arith) (omega arith)

  -- a binary search ends at the key, or at the gap for it
  pub searched : (es : List (K × X)) → T (is_sorted R es) → (q : K) (r : Result ℕ ℕ) → IsSearchInRange r (length es) → IsBinarySearchResult (λ e. R e.0 q) es r → MatchResult r (IsPlaceOf R es q) (IsGapFor R es q)
  searched es sorted q (Ok i) within equal = record {
    within = within;
    before = λ k d lt. sym (alike_right o (get_or es i d).0 q (get_or es k d).0 (equal d)) ∙ rises es sorted k i d lt within;
    here = equal;
  }
  searched es sorted q (Err i) within parted =
      let parts = parted (searchable_from_sorted o (λ e. e.0) es q (λ k d low lt. ap is_lt (turned o _ _ _ (rises es sorted k (k + 1) d (omega arith) (omega arith))))) in
      record { within = within; before = λ k d lt. parts.0 k d (omega arith) lt; behind = λ k d le lt. parts.1 k d le lt }

  place_behind : (e : K × X) (es : List (K × X)) (q : K) (i : ℕ) → IsPlaceOf R (e ∷ es) q (suc i) → IsPlaceOf R es q i
  place_behind e es q i p = record { within = omega (arith, p.within); before = λ k d lt. p.before (suc k) d (omega arith); here = p.here }

  -- the entry at the key's place is the one that is found, and a new entry goes there
  pub at_place : (es : List (K × X)) (q : K) (i : ℕ) (d : K × X) → IsPlaceOf R es q i → (find R q es ≡ Some (get_or es i d).1) × ((v : X) → put R q v es ≡ set es i ((get_or es i d).0, v))
  at_place [] q i d p = absurd (omega (arith, p.within))
  at_place (e ∷ es) q zero d p = rw (turned o e.0 q Equal (p.here d)) (refl, λ v. refl)
  at_place (e ∷ es) q (suc i) d p =
      let rest = at_place es q i d (place_behind e es q i p) in
      rw (turned o e.0 q Less (p.before 0 d (omega arith))) (rest.0, λ v. ap (λ t. e ∷ t) (rest.1 v))

  gap_behind : (e : K × X) (es : List (K × X)) (q : K) (i : ℕ) → IsGapFor R (e ∷ es) q (suc i) → IsGapFor R es q i
  gap_behind e es q i p = record {
    within = omega (arith, p.within);
    before = λ k d lt. p.before (suc k) d (omega arith);
    behind = λ k d le lt. p.behind (suc k) d (omega arith) (omega arith);
  }

  pub find_gap : (es : List (K × X)) (q : K) (i : ℕ) → IsGapFor R es q i → find R q es ≡ None
  find_gap [] q i p = refl
  find_gap (e ∷ es) q zero p =
      rw (turned o e.0 q Greater (p.behind 0 e (omega arith) (omega arith))) (find_gap es q zero (record { within = omega arith; before = λ k d lt. absurd (omega arith); behind = λ k d le lt. p.behind (suc k) d (omega arith) (omega arith) }))
  find_gap (e ∷ es) q (suc i) p = rw (turned o e.0 q Less (p.before 0 e (omega arith))) (find_gap es q i (gap_behind e es q i p))

  pub put_gap : (es : List (K × X)) (q : K) (v : X) (i : ℕ) → IsGapFor R es q i → put R q v es ≡ insert es i (q, v)
  put_gap [] q v zero p = refl
  put_gap [] q v (suc i) p = absurd (omega (arith, p.within))
  put_gap (e ∷ es) q v zero p = rw (turned o e.0 q Greater (p.behind 0 e (omega arith) (omega arith))) refl
  put_gap (e ∷ es) q v (suc i) p = rw (turned o e.0 q Less (p.before 0 e (omega arith))) (ap (λ t. e ∷ t) (put_gap es q v i (gap_behind e es q i p)))

  -- greater keys are others
  greater_stay : (k q : K) (es : List (K × X)) → R q k ≡ Equal → T (below_all R k es) → where_key R (other R q) es ≡ es
  greater_stay k q [] tie h = refl
  greater_stay k q (e ∷ es) tie h =
      let above : R q e.0 ≡ Less = o.congr q k e.0 tie ∙ less _ (first _ _ h) in
      rw above (ap (λ t. e ∷ t) (greater_stay k q es tie (second _ _ h)))

  -- without the entry at the key's place, all with other keys are left
  pub remove_place : (es : List (K × X)) → T (is_sorted R es) → (q : K) (i : ℕ) → K × X → IsPlaceOf R es q i → remove es i ≡ where_key R (other R q) es
  remove_place [] h q i d p = absurd (omega (arith, p.within))
  remove_place (e ∷ es) h q zero d p =
      let tie = turned o e.0 q Equal (p.here d) in
      rw tie (sym (greater_stay e.0 q es tie (first _ _ h)))
  remove_place (e ∷ es) h q (suc i) d p = rw (turned o e.0 q Less (p.before 0 d (omega arith))) (ap (λ t. e ∷ t) (remove_place es (second _ _ h) q i d (place_behind e es q i p)))
