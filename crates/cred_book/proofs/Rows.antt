-- A row that is put at a key or taken away, and what puts back the rows that were there.
use Rattle.std.proofs.Common.{◌≡◌, List, ℕ, Bool, true, false, Option, Some, None, is_some, cond, Ordering, Equal, is_eq, refl, sym, ap, ◌∙◌}
use Rattle.std.specs.{Ordering.eq_by_cmp, Cmp.Lexicographic.nat_list_cmp_total}
use Rattle.std.specs.FinMap as map
use Rattle.cred_phc.specs.Values.{RecordValue}
use Rattle.cred_book.specs.{Accounts.Accounts, Names.name_cmp, Updates.Rows, Updates.with_row}

-- only equal names tie
pub same_names : map.IsAntisymmetric name_cmp
same_names = map.slice_cmp-IsAntisymmetric map.nat_cmp-IsAntisymmetric

pub same_rows : {V : Type 0} (a b : Rows V) → ((q : List ℕ) → map.get a q ≡ map.get b q) → a ≡ b
same_rows = map.same_map nat_list_cmp_total same_names

pub no_some : {X : Type 0} (found : Option X) → is_some found ≡ false → found ≡ None
no_some None e = refl
no_some (Some x) e = absurd cc

module _ {V : Type 0} (rows : Rows V) (key : List ℕ) where
  pub get_row : (row : Option V) (q : List ℕ) → map.get (with_row rows key row) q ≡ cond (eq_by_cmp name_cmp q key) row (map.get rows q)
  get_row None q = map.get-remove nat_list_cmp_total rows key q
  get_row (Some row) q = map.get-insert nat_list_cmp_total rows key row q

  tied : (row : Option V) → map.get rows key ≡ row → (q : List ℕ) (r : Ordering) → name_cmp q key ≡ r → cond (is_eq r) row (map.get rows q) ≡ map.get rows q
  tied row is q Equal c = sym is ∙ map.get_tied nat_list_cmp_total rows q key c
  tied row is q _ c = refl

  -- a row that is put at its own key again changes nothing
  pub row_again : (row : Option V) → map.get rows key ≡ row → with_row rows key row ≡ rows
  row_again row is = same_rows _ _ (λ q. get_row row q ∙ tied row is q _ refl)

-- a row put over another
pub row_over : {V : Type 0} (rows : Rows V) (key : List ℕ) (first row : Option V) → with_row (with_row rows key first) key row ≡ with_row rows key row
row_over {V = V} rows key first row = same_rows _ _ (λ q.
    get_row (with_row rows key first) key row q ∙ ap (cond (eq_by_cmp name_cmp q key) row) (get_row rows key first q)
    ∙ over (eq_by_cmp name_cmp q key) (map.get rows q) ∙ sym (get_row rows key row q))
  where
    over : (b : Bool) (there : Option V) → cond b row (cond b first there) ≡ cond b row there
    over true there = refl
    over false there = refl

module _ (book : Accounts) (name : List ℕ) where
  -- removing a name that isn't there changes nothing
  pub remove_absent : map.contains_key book name ≡ false → map.remove book name ≡ book
  remove_absent absent = row_again book name None (no_some _ absent)

  -- removing a new name again leaves the old book
  pub remove_again : (now : Option RecordValue) → map.contains_key book name ≡ false → map.remove (map.insert book name now) name ≡ book
  remove_again now absent = row_over book name (Some now) None ∙ remove_absent absent

  -- the record that stood at a name is put back
  pub put_back : (now before : Option RecordValue) → map.get book name ≡ Some before → map.insert (map.insert book name now) name before ≡ book
  put_back now before stood = row_over book name (Some now) (Some before) ∙ row_again book name (Some before) stood
