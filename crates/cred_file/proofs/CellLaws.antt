-- The text of marks and a record, which is read back as these, and the cell of a name in a book
-- with its marks.
use Rattle.std.proofs.Common.{◌≡◌, ℕ, List, [], ◌∷◌, ◌++◌, map, length, Bool, true, false, cond, ◌||◌, ◌&&◌, T, Option, Some, None, is_some, unwrap_or, Ok, inl, inr, refl, sym, ap, subst, ◌∙◌}
use Rattle.std.proofs.lemmas.{List.length-map}
use Rattle.std.specs.{Option.option_map, Ordering.eq_by_cmp, Ordering.is_eq, Cmp.Lexicographic.nat_list_cmp_total}
use Rattle.std.specs.Cmp.{Equal-is, eq_by_cmp_equiv}
use Rattle.std.specs.FinMap as fin
use Rattle.std.specs.FinMap.{get-empty, get-entries, get-from_sorted, get-insert, get-remove, entries-from_sorted, len-entries}
use Rattle.std.specs.FinMap.Entries.{below_all}
use Rattle.cred_phc.specs.{Values.IsRecord, Values.RecordValue, Text.IsRecordText, Text.bare_text, Text.record_text, Reading.read_record}
use Rattle.cred_phc.specs.declared.setting.Scheme.{Scheme}
use Rattle.cred_phc.specs.declared.setting.Scheme.TheVariants.{Argon2, Scrypt}
use Rattle.cred_phc.proofs.RecordLaws.{read_back}
use Rattle.cred_book.proofs.Rows.{no_some, row_again, row_over, same_names, same_rows}
use Rattle.cred_book.specs.{Accounts.Accounts, Names.name_cmp}
use Rattle.cred_file.specs.declared.marks.Mark.{Mark}
use Rattle.cred_file.specs.Cells.{Cell, cell, cells_of, blank, is_marked, mark_text, mark_in, marked, marking, read_cell, renewal, renewed, unmarked, with_mark}

-- ---- the text

-- the text of a record begins with `$`
dollar_first : (v : RecordValue) → (s : Scheme) → s ≡ v.setting.scheme → (text : List ℕ) × (record_text v ≡ 36 ∷ text)
unfolding record_text
dollar_first v s is = elim s as (λ s. s ≡ v.setting.scheme → (text : List ℕ) × (record_text v ≡ 36 ∷ text)) [
  | Argon2 version variant m t p ↦ λ is. rw (← is) (_, refl)
  | Scrypt ln r p ↦ λ is. rw (← is) (_, refl)
] is

-- marks before a `$` are read as these
front_read : (locked must_change : Bool) (text : List ℕ) →
    read_cell (mark_text (record { locked = locked; must_change = must_change }) ++ 36 ∷ text) ≡ with_mark (record { locked = locked; must_change = must_change }) (read_record (36 ∷ text))
front_read true true text = refl
front_read true false text = refl
front_read false true text = refl
front_read false false text = refl

pub read_marked : (m : Mark) (v : RecordValue) → IsRecord v → read_cell (mark_text m ++ record_text v) ≡ Ok (cell (Some v) m)
read_marked m v ranges =
    let is = dollar_first v v.setting.scheme refl in
    ap (λ t. read_cell (mark_text m ++ t)) is.1 ∙ front_read m.locked m.must_change is.0 ∙ ap (λ t. with_mark m (read_record t)) (sym is.1) ∙ ap (with_mark m) (read_back v ranges)

alone_read : (locked must_change : Bool) → (locked || must_change) ≡ true →
    read_cell (mark_text (record { locked = locked; must_change = must_change })) ≡ Ok (cell None (record { locked = locked; must_change = must_change }))
alone_read true true e = refl
alone_read true false e = refl
alone_read false true e = refl
alone_read false false e = absurd cc

-- marks with no record
pub read_alone : (m : Mark) → is_marked m ≡ true → read_cell (mark_text m) ≡ Ok (cell None m)
read_alone m e = alone_read m.locked m.must_change e

-- so does the text of an old record
bare_first : (v : RecordValue) → (s : Scheme) → s ≡ v.setting.scheme → (text : List ℕ) × (bare_text v ≡ 36 ∷ text)
unfolding bare_text
bare_first v s is = elim s as (λ s. s ≡ v.setting.scheme → (text : List ℕ) × (bare_text v ≡ 36 ∷ text)) [
  | Argon2 version variant m t p ↦ λ is. rw (← is) (_, refl)
  | Scrypt ln r p ↦ λ is. rw (← is) (_, refl)
] is

begun : (text rest : List ℕ) → text ≡ 36 ∷ rest → read_cell text ≡ with_mark unmarked (read_record text)
begun text rest is = subst (λ t. read_cell t ≡ with_mark unmarked (read_record t)) (sym is) refl

-- a text that is read as a record has no mark
pub old_read : (text : List ℕ) (v : RecordValue) → IsRecordText text v → read_record text ≡ Ok v → read_cell text ≡ Ok (cell (Some v) unmarked)
old_read text v of e = elim of [
  | inl is ↦ let first = dollar_first v v.setting.scheme refl in begun text first.0 (is ∙ first.1) ∙ ap (with_mark unmarked) e
  | inr is ↦ let first = bare_first v v.setting.scheme refl in begun text first.0 (is.1 ∙ first.1) ∙ ap (with_mark unmarked) e
]

-- ---- what stands at a name

abbrev ties : List ℕ → List ℕ → Bool
ties q name = eq_by_cmp name_cmp q name

tied_name : (q name : List ℕ) → ties q name ≡ true → q ≡ name
tied_name q name e = same_names q name ((Equal-is (name_cmp q name)).0 e)

abbrev Entries : Type 0
Entries = List (List ℕ × Option RecordValue)

module _ (marks : List ℕ → Mark) where
  abbrev seen : List ℕ × Option RecordValue → List ℕ × Cell
  seen e = (e.0, cell e.1 (marks e.0))

  find_seen : (q : List ℕ) (es : Entries) → fin.find name_cmp q (map seen es) ≡ option_map (λ v. cell v (marks q)) (fin.find name_cmp q es)
  find_seen q [] = refl
  find_seen q (e ∷ es) =
      ap (cond (ties q e.0) (Some (cell e.1 (marks e.0)))) (find_seen q es)
      ∙ elim (ties q e.0) as (λ b. ties q e.0 ≡ b → cond b (Some (cell e.1 (marks e.0))) (option_map (λ v. cell v (marks q)) (fin.find name_cmp q es)) ≡ option_map (λ v. cell v (marks q)) (cond b (Some e.1) (fin.find name_cmp q es))) [
        | true ↦ λ p. ap (λ n. Some (cell e.1 (marks n))) (sym (tied_name q e.0 p))
        | false ↦ λ p. refl
      ] refl

  below_seen : (x : List ℕ) (es : Entries) → below_all name_cmp x (map seen es) ≡ below_all name_cmp x es
  below_seen x [] = refl
  below_seen x (e ∷ es) = ap (λ b. Rattle.std.specs.Ordering.is_lt (name_cmp x e.0) && b) (below_seen x es)

  sorted_seen : (es : Entries) → fin.is_sorted name_cmp (map seen es) ≡ fin.is_sorted name_cmp es
  sorted_seen [] = refl
  sorted_seen (e ∷ es) = (λ i. below_seen e.0 es i && sorted_seen es i)

  whole : (book : Accounts) → T (fin.is_sorted name_cmp (map seen (fin.entries book)))
  whole book = subst T (sym (sorted_seen (fin.entries book))) (fin.entries_sorted book)

  pub get_cells : (book : Accounts) (q : List ℕ) → fin.get (cells_of book marks) q ≡ option_map (λ v. cell v (marks q)) (fin.get book q)
  unfolding cells_of
  get_cells book q = get-from_sorted name_cmp (map seen (fin.entries book)) q (whole book) ∙ find_seen q (fin.entries book) ∙ ap (option_map (λ v. cell v (marks q))) (sym (get-entries book q))

  pub len_cells : (book : Accounts) → fin.len (cells_of book marks) ≡ fin.len book
  unfolding cells_of
  len_cells book = len-entries (cells_of book marks) ∙ ap length (entries-from_sorted name_cmp (map seen (fin.entries book)) (whole book)) ∙ length-map (fin.entries book) seen ∙ sym (len-entries book)

  some_mapped : {A B : Type 0} (f : A → B) (o : Option A) → is_some (option_map f o) ≡ is_some o
  some_mapped f None = refl
  some_mapped f (Some x) = refl

  pub has_cell : (book : Accounts) (q : List ℕ) → fin.contains_key (cells_of book marks) q ≡ fin.contains_key book q
  has_cell book q = ap is_some (get_cells book q) ∙ some_mapped _ (fin.get book q)

  abbrev mark_from : Option (Option RecordValue) → (List ℕ) → Mark
  mark_from o q = (unwrap_or (option_map (λ v. cell v (marks q)) o) blank).mark

  pub mark_here : (book : Accounts) (q : List ℕ) → fin.contains_key book q ≡ true → mark_in (cells_of book marks) q ≡ marks q
  mark_here book q there =
      ap (λ (o : Option Cell). (unwrap_or o blank).mark) (get_cells book q)
      ∙ elim (fin.get book q) as (λ o. is_some o ≡ true → mark_from o q ≡ marks q) [ None ↦ λ e. absurd cc | Some v ↦ λ e. refl ] there

  pub mark_absent : (book : Accounts) (q : List ℕ) → fin.contains_key book q ≡ false → mark_in (cells_of book marks) q ≡ unmarked
  mark_absent book q absent =
      ap (λ (o : Option Cell). (unwrap_or o blank).mark) (get_cells book q)
      ∙ elim (fin.get book q) as (λ o. is_some o ≡ false → mark_from o q ≡ unmarked) [ None ↦ λ e. refl | Some v ↦ λ e. absurd cc ] absent

  -- what is written there with a new record
  pub renewal_here : (book : Accounts) (q : List ℕ) (v : Option RecordValue) → fin.contains_key book q ≡ true → renewal (cells_of book marks) q v ≡ cell v (renewed (marks q))
  renewal_here book q v there = ap (λ m. cell v (renewed m)) (mark_here book q there)

  pub renewal_absent : (book : Accounts) (q : List ℕ) (v : Option RecordValue) → fin.contains_key book q ≡ false → renewal (cells_of book marks) q v ≡ cell v unmarked
  renewal_absent book q v absent = ap (λ m. cell v (renewed m)) (mark_absent book q absent)

  -- and with a new mark
  pub marking_here : (book : Accounts) (q : List ℕ) (v : Option RecordValue) (m : Mark) → fin.get book q ≡ Some v → marking (cells_of book marks) q m ≡ cell v m
  marking_here book q v m got = ap (λ (o : Option Cell). cell (unwrap_or o blank).stored m) (get_cells book q ∙ ap (option_map (λ w. cell w (marks q))) got)

module _ (book : Accounts) (marks : List ℕ → Mark) (name : List ℕ) (m : Mark) where
  -- a record and a mark are put at a name
  pub cells_put : (v : Option RecordValue) → cells_of (fin.insert book name v) (marked marks name m) ≡ fin.insert (cells_of book marks) name (cell v m)
  cells_put v = same_rows _ _ (λ q.
      get_cells (marked marks name m) (fin.insert book name v) q
      ∙ ap (option_map (λ w. cell w (marked marks name m q))) (get-insert nat_list_cmp_total book name v q)
      ∙ by_tie (eq_by_cmp name_cmp q name) (marks q) (fin.get book q)
      ∙ sym (get-insert nat_list_cmp_total (cells_of book marks) name (cell v m) q ∙ ap (cond (eq_by_cmp name_cmp q name) (Some (cell v m))) (get_cells marks book q)))
    where
      by_tie : (b : Bool) (mark : Mark) (o : Option (Option RecordValue)) → option_map (λ w. cell w (cond b m mark)) (cond b (Some v) o) ≡ cond b (Some (cell v m)) (option_map (λ w. cell w mark) o)
      by_tie true mark o = refl
      by_tie false mark o = refl

  -- a name is removed
  pub cells_less : cells_of (fin.remove book name) (marked marks name m) ≡ fin.remove (cells_of book marks) name
  cells_less = same_rows _ _ (λ q.
      get_cells (marked marks name m) (fin.remove book name) q
      ∙ ap (option_map (λ w. cell w (marked marks name m q))) (get-remove nat_list_cmp_total book name q)
      ∙ by_tie (eq_by_cmp name_cmp q name) (marks q) (fin.get book q)
      ∙ sym (get-remove nat_list_cmp_total (cells_of book marks) name q ∙ ap (cond (eq_by_cmp name_cmp q name) None) (get_cells marks book q)))
    where
      by_tie : (b : Bool) (mark : Mark) (o : Option (Option RecordValue)) → option_map (λ w. cell w (cond b m mark)) (cond b None o) ≡ cond b None (option_map (λ w. cell w mark) o)
      by_tie true mark o = refl
      by_tie false mark o = refl

  -- the mark alone is put, at a name that is there
  pub cells_mark : (v : Option RecordValue) → fin.get book name ≡ Some v → cells_of book (marked marks name m) ≡ fin.insert (cells_of book marks) name (cell v m)
  cells_mark v is = ap (λ b. cells_of b (marked marks name m)) (sym (row_again book name (Some v) is)) ∙ cells_put v

  -- the mark of a name that isn't there says nothing
  pub cells_same : fin.contains_key book name ≡ false → cells_of book (marked marks name m) ≡ cells_of book marks
  cells_same absent =
      ap (λ b. cells_of b (marked marks name m)) (sym (row_again book name None (no_some _ absent))) ∙ cells_less
      ∙ row_again (cells_of book marks) name None (no_some _ (has_cell marks book name ∙ absent))

-- a row that was put is removed again
pub removed_again : {V : Type 0} (rows : fin.FinMap name_cmp V) (name : List ℕ) (now : V) → fin.contains_key rows name ≡ false → fin.remove (fin.insert rows name now) name ≡ rows
removed_again rows name now absent = row_over rows name (Some now) None ∙ row_again rows name None (no_some _ absent)

pub no_cells : (marks : List ℕ → Mark) → cells_of fin.empty marks ≡ fin.empty
no_cells marks = same_rows _ _ (λ q. get_cells marks fin.empty q ∙ ap (option_map (λ v. cell v (marks q))) (get-empty name_cmp q) ∙ sym (get-empty name_cmp q))
