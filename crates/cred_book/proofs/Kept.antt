-- Entries in order and their map, and the effect of a write among a book's entries on it.
use Rattle.std.proofs.Common.{refl, ◌≡◌, ℕ, ◌<◌, ◌≤◌, List, [], ◌++◌, append-nil, length, get_or, set, Bool, cond, not, T, Option, Some, None, true, false, is_some, sym, ap, subst, ◌∙◌, arith}
use Rattle.std.proofs.lemmas.Cmp.{alike_right}
use Rattle.std.specs.{List.insert, List.remove, Ordering.is_eq, Ordering.eq_by_cmp}
use Rattle.std.specs.FinMap as map
use Rattle.std.specs.FinMap.Entries.{find-where_key, is_sorted-put, is_sorted-where_key, put, where_key}
use Rattle.std.specs.{Cmp.eq_by_cmp_equiv, Cmp.Lexicographic.nat_list_cmp_total}
use Rattle.std.proofs.{lemmas.List.Edits.length-insert, lemmas.List.Edits.length-remove, Math.ListN.length-set}
use Rattle.cred_phc.specs.Values.{RecordValue}
use Rattle.cred_book.specs.{Accounts.Accounts, Accounts.IsKept, Accounts.book_capacity, Names.name_cmp, Places.IsPlaceOf, Places.IsGapFor}
use Rattle.cred_book.proofs.{Entries.at_place, Entries.find_gap, Entries.other, Entries.put_gap, Entries.remove_place, Rows.same_rows}

abbrev pub Entries : Type 0
Entries = List (List ℕ × Option RecordValue)

module _ (entries : Entries) (sorted : T (map.is_sorted name_cmp entries)) (book : Accounts) (view : map.from_sorted entries ≡ book) where
  pub entries_of : map.entries book ≡ entries
  entries_of = rw (← view) (map.entries-from_sorted name_cmp entries sorted)

  pub len_of : map.len book ≡ length entries
  len_of = map.len-entries book ∙ ap length entries_of

  pub found_of : (q : List ℕ) → map.get book q ≡ map.find name_cmp q entries
  found_of q = rw (← view) (map.get-from_sorted name_cmp entries q sorted)

-- no entries make the empty map
pub none_from : map.from_sorted {R = name_cmp} [] ≡ map.empty {X = Option RecordValue}
none_from = map.empty_of_len _ (len_of [] tt _ refl)

module _ (entries : Entries) (capacity : ℕ) (kept : IsKept entries capacity) (book : Accounts) (view : map.from_sorted entries ≡ book) (name : List ℕ) where
  sorted_put : (now : Option RecordValue) → T (map.is_sorted name_cmp (put name_cmp name now entries))
  sorted_put now = is_sorted-put name_cmp nat_list_cmp_total name now entries kept.sorted

  put_of : (now : Option RecordValue) → map.from_sorted (put name_cmp name now entries) ≡ map.insert book name now
  put_of now = map.same_entries_map _ _ (map.entries-from_sorted name_cmp (put name_cmp name now entries) (sorted_put now)
      ∙ sym (map.entries-insert nat_list_cmp_total book name now ∙ ap (put name_cmp name now) (entries_of entries kept.sorted book view)))

  module _ (i : ℕ) (p : IsPlaceOf name_cmp entries name i) (d : List ℕ × Option RecordValue) where
    pub get_there : map.get book name ≡ Some (get_or entries i d).1
    get_there = found_of entries kept.sorted book view name ∙ (at_place name_cmp nat_list_cmp_total entries name i d p).0

    pub is_there : map.contains_key book name ≡ true
    is_there = ap is_some get_there

    is_set : (now : Option RecordValue) → put name_cmp name now entries ≡ set entries i ((get_or entries i d).0, now)
    is_set = (at_place name_cmp nat_list_cmp_total entries name i d p).1

    pub set_there : (now : Option RecordValue) → map.from_sorted (set entries i ((get_or entries i d).0, now)) ≡ map.insert book name now
    set_there now = subst (λ es. map.from_sorted es ≡ map.insert book name now) (is_set now) (put_of now)

    pub kept_set : (now : Option RecordValue) → IsKept (set entries i ((get_or entries i d).0, now)) capacity
    kept_set now = record {
      sorted = subst (λ es. T (map.is_sorted name_cmp es)) (is_set now) (sorted_put now);
      few = rw length-set kept.few;
      room = kept.room;
    }

    is_removed : remove entries i ≡ where_key name_cmp (other name_cmp name) entries
    is_removed = remove_place name_cmp nat_list_cmp_total entries kept.sorted name i d p

    pub kept_remove : IsKept (remove entries i) capacity
    kept_remove = record {
      sorted = subst (λ es. T (map.is_sorted name_cmp es)) (sym is_removed) (is_sorted-where_key name_cmp (other name_cmp name) entries kept.sorted);
      few = omega (arith, length-remove entries i p.within, kept.few);
      room = kept.room;
    }

    pub remove_there : map.from_sorted (remove entries i) ≡ map.remove book name
    remove_there = same_rows _ _ (λ q.
        map.get-from_sorted name_cmp (remove entries i) q kept_remove.sorted
        ∙ ap (map.find name_cmp q) is_removed
        ∙ find-where_key name_cmp (other name_cmp name) q (λ x t. ap (λ r. not (is_eq r)) (sym (alike_right nat_list_cmp_total q x name t))) entries
        ∙ flipped (eq_by_cmp name_cmp name q) _ _
        ∙ ap (λ b. cond b None (map.find name_cmp q entries)) ((eq_by_cmp_equiv nat_list_cmp_total).symm name q)
        ∙ sym (map.get-remove nat_list_cmp_total book name q ∙ ap (cond (eq_by_cmp name_cmp q name) None) (found_of entries kept.sorted book view q)))
      where
        flipped : (b : Bool) (x y : Option (Option RecordValue)) → cond (not b) x y ≡ cond b y x
        flipped true x y = refl
        flipped false x y = refl

  module _ (i : ℕ) (gap : IsGapFor name_cmp entries name i) where
    pub get_absent : map.get book name ≡ None
    get_absent = found_of entries kept.sorted book view name ∙ find_gap name_cmp nat_list_cmp_total entries name i gap

    pub is_absent : map.contains_key book name ≡ false
    is_absent = ap is_some get_absent

    pub insert_there : (now : Option RecordValue) → map.from_sorted (insert entries i (name, now)) ≡ map.insert book name now
    insert_there now = subst (λ es. map.from_sorted es ≡ map.insert book name now) (put_gap name_cmp nat_list_cmp_total entries name now i gap) (put_of now)

    pub kept_insert : (now : Option RecordValue) (room : ℕ) → map.len book < book_capacity → book_capacity ≤ room → IsKept (insert entries i (name, now)) room
    kept_insert now room few fits = record {
      sorted = subst (λ es. T (map.is_sorted name_cmp es)) (put_gap name_cmp nat_list_cmp_total entries name now i gap) (sorted_put now);
      few = rw (length-insert entries i (name, now) gap.within) (omega (arith, len_of entries kept.sorted book view, few));
      room = fits;
    }

-- ---- the entries of another map, copied in order

pub entries_end : (front all rest : Entries) → front ++ rest ≡ all → rest ≡ [] → front ≡ all
entries_end front all rest goes none = sym (append-nil front) ∙ ap (λ es. front ++ es) (sym none) ∙ goes

module _ (book : Accounts) (es : Entries) (is : es ≡ map.entries book) where
  sorted_whole : T (map.is_sorted name_cmp es)
  sorted_whole = subst (λ es. T (map.is_sorted name_cmp es)) (sym is) (map.entries_sorted book)

  pub kept_whole : (capacity : ℕ) → map.len book ≤ book_capacity → book_capacity ≤ capacity → IsKept es capacity
  kept_whole capacity few room = record { sorted = sorted_whole; few = omega (arith, few, map.len-entries book, ap length is); room = room }

  pub view_whole : map.from_sorted es ≡ book
  view_whole = map.same_entries_map _ _ (map.entries-from_sorted name_cmp es sorted_whole ∙ is)
