-- The entries of a tree and a register's map, and the effect of a write among them on it.
use Rattle.std.proofs.Common.{◌≡◌, ◌≤◌, ℕ, List, [], ◌∷◌, length, Option, Some, is_some, true, cond, T, refl, sym, ap, ◌∙◌}
use Rattle.std.specs.{List.AllByRecursion, List.Sorted.IsStrictlySortedBy, Ordering.is_eq}
use Rattle.std.specs.declared.cmp.Ordering.{Ordering}
use Rattle.std.specs.declared.cmp.Ordering.TheVariants.{Less}
use Rattle.std.specs.{Map.keys_of, Map.lookup, BTreeMap.is_at, Cmp.eq_by_cmp_equiv, Cmp.Lexicographic.nat_list_cmp_total}
use Rattle.std.specs.FinMap as map
use Rattle.std.specs.FinMap.Entries.{below_all}
use Rattle.cred_phc.specs.Values.{RecordValue}
use Rattle.cred_book.specs.{Accounts.Accounts, Accounts.IsRegister, Accounts.register_capacity, Names.name_cmp, Updates.with_row}
use Rattle.cred_book.proofs.{Kept.Entries, Kept.found_of, Rows.get_row, Rows.same_rows}

module _ {K X : Type 0} (R : K → K → Ordering) where
  below : (k : K) (es : List (K × X)) → AllByRecursion (λ y. R k y ≡ Less) (keys_of es) → below_all R k es ≡ true
  below k [] h = refl
  below k (e ∷ es) h = rw h.0 (below k es h.1)

  -- the keys of a tree ascend
  pub sorted_of : (es : List (K × X)) → IsStrictlySortedBy R (keys_of es) → T (map.is_sorted R es)
  unfolding IsStrictlySortedBy
  sorted_of [] h = tt
  sorted_of (e ∷ es) h = rw (below e.0 es h.0) (sorted_of es h.1)

  pub lookup_find : (es : List (K × X)) (q : K) → lookup (is_at (R q)) es ≡ map.find R q es
  lookup_find [] q = refl
  lookup_find (e ∷ es) q = ap (cond (is_eq (R q e.0)) (Some e.1)) (lookup_find es q)

pub kept_of : (es : Entries) → IsStrictlySortedBy name_cmp (keys_of es) → length es ≤ register_capacity → IsRegister es
kept_of es ordered few = record { sorted = sorted_of name_cmp es ordered; few = few }

module _ (es : Entries) (kept : IsRegister es) (book : Accounts) (view : map.from_sorted es ≡ book) where
  pub get_of : (q : List ℕ) → map.get book q ≡ lookup (is_at (name_cmp q)) es
  get_of q = found_of es kept.sorted book view q ∙ sym (lookup_find name_cmp es q)

  pub has_of : (q : List ℕ) → is_some (lookup (is_at (name_cmp q)) es) ≡ map.contains_key book q
  has_of q = sym (ap is_some (get_of q))

  -- an entry put among these, or taken away
  pub written_of : (later : Entries) → IsRegister later → (key : List ℕ) (row : Option (Option RecordValue))
      → ((q : List ℕ) → lookup (is_at (name_cmp q)) later ≡ cond (is_at (name_cmp key) q) row (lookup (is_at (name_cmp q)) es)) → map.from_sorted later ≡ with_row book key row
  written_of later after key row updates = same_rows _ _ (λ q.
      map.get-from_sorted name_cmp later q after.sorted ∙ sym (lookup_find name_cmp later q) ∙ updates q
      ∙ sym (get_row book key row q ∙ ap (λ b. cond b row (map.get book q)) ((eq_by_cmp_equiv nat_list_cmp_total).symm q key) ∙ ap (cond (is_at (name_cmp key) q) row) (get_of q)))
