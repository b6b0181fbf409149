-- The entries of a tree and the counts' map, and the effect of a write among them on it.
use Rattle.std.proofs.Common.{◌≡◌, ℕ, List, [], Option, is_some, cond, T, sym, ap, ◌∙◌}
use Rattle.std.specs.{Map.lookup, BTreeMap.is_at, Cmp.eq_by_cmp_equiv, Cmp.Lexicographic.nat_list_cmp_total}
use Rattle.std.specs.FinMap as map
use Rattle.cred_book.specs.{Names.name_cmp, Updates.with_row}
use Rattle.cred_book.proofs.{Registered.lookup_find, Rows.get_row, Rows.same_rows}
use Rattle.cred_tries.specs.CountMaps.{CountMap}
use Rattle.cred_tries.specs.declared.count.Count.{Count}

abbrev pub Entries : Type 0
Entries = List (List ℕ × Count)

pub none_from : map.from_sorted {R = name_cmp} [] ≡ map.empty {X = Count}
none_from = same_rows _ _ (λ q. map.get-from_sorted name_cmp [] q tt ∙ sym (map.get-empty name_cmp q))

module _ (es : Entries) (kept : T (map.is_sorted name_cmp es)) (counts : CountMap) (view : map.from_sorted es ≡ counts) where
  pub get_of : (q : List ℕ) → map.get counts q ≡ lookup (is_at (name_cmp q)) es
  get_of q = rw (← view) (map.get-from_sorted name_cmp es q kept) ∙ sym (lookup_find name_cmp es q)

  pub entries_of : map.entries counts ≡ es
  entries_of = rw (← view) (map.entries-from_sorted name_cmp es kept)

  pub has_of : (q : List ℕ) → is_some (lookup (is_at (name_cmp q)) es) ≡ map.contains_key counts q
  has_of q = sym (ap is_some (get_of q))

  -- a count put among these, or taken away
  pub written_of : (later : Entries) → T (map.is_sorted name_cmp later) → (key : List ℕ) (count : Option Count)
      → ((q : List ℕ) → lookup (is_at (name_cmp q)) later ≡ cond (is_at (name_cmp key) q) count (lookup (is_at (name_cmp q)) es)) → map.from_sorted later ≡ with_row counts key count
  written_of later after key count updates = same_rows _ _ (λ q.
      map.get-from_sorted name_cmp later q after ∙ sym (lookup_find name_cmp later q) ∙ updates q
      ∙ sym (get_row counts key count q ∙ ap (λ b. cond b count (map.get counts q)) ((eq_by_cmp_equiv nat_list_cmp_total).symm q key) ∙ ap (cond (is_at (name_cmp key) q) count) (get_of q)))
