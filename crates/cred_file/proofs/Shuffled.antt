-- The order of the rows doesn't matter, so an added or a removed row can stand in front of the
-- others.
use Rattle.std.proofs.Common.{◌≡◌, ℕ, ℤ, List, [], ◌∷◌, map, length, filter, Bool, true, false, cond, not, ◌||◌, ◌&&◌, Some, refl, sym, ap, subst, ◌∙◌, arith, inl, inr}
use Rattle.std.proofs.{lemmas.Bool.or_parts, lemmas.Bool.or_from, lemmas.Bool.true≢false, lemmas.List.length-map}
use Rattle.std.proofs.lemmas.List.Sorted.{length_permutation, list_any-IsPermutation}
use Rattle.std.specs.{List.AllZip, List.list_any, List.Sorted.IsPermutation, Ordering.is_eq, Ordering.eq_by_cmp, Ordering.match_ordering, Cmp.eq_by_cmp_equiv, Cmp.Lexicographic.nat_list_cmp_total}
use Rattle.std.specs.declared.cmp.Ordering.TheVariants.{Less, Equal, Greater}
use Rattle.std.specs.FinMap as fin
use Rattle.std.specs.FinMap.{get-from_entries, get-insert}
use Rattle.sqlite.specs.{declared.types.Value.TheVariants.Int, Order.Row, Order.column, Order.value_cmp}
use Rattle.sqlite_trees.proofs.ListLemmas.{IsPermutation-filter, along_permutation, filter-map}
use Rattle.sqlite_trees.specs.{Tree.has_rowid, Tree.put_row, Tree.rowid, Tree.without_rowid, View.is_int}
use Rattle.sqlite_value.proofs.OrderLemmas.{value_cmp_total}
use Rattle.cred_book.proofs.Rows.{same_rows}
use Rattle.cred_file.specs.Cells.{Cells}
use Rattle.cred_book.specs.{Names.name_cmp}
use Rattle.cred_file.specs.declared.fault.OpenFault.{OpenFault}
use Rattle.cred_file.specs.declared.fault.OpenFault.TheVariants as fault
use Rattle.cred_file.specs.Table.{Line, Says, entry_of, has_id, has_name, AreApart, StandsFor}
use Rattle.cred_file.specs.Opening.{agree, is_no_name, is_no_record, is_repeated, AreAtFault}
use Rattle.cred_file.proofs.CellLaws.{removed_again}
use Rattle.cred_file.proofs.TableLemmas.{any_known, any_line, any_map, any_rows, id_symm, name_symm, numbered, said_once, same_name}

-- what the query shows of a row
abbrev pub shown : Row → Row
shown r = column r 0 ∷ column r 1 ∷ column r 2 ∷ []

swap_or : (a b c : Bool) → (a || (b || c)) ≡ (b || (a || c))
swap_or true true c = refl
swap_or true false c = refl
swap_or false b c = refl

over : {X : Type 0} (q a b : List ℕ) → eq_by_cmp name_cmp b a ≡ false → (u v w : X) (s : Bool) → eq_by_cmp name_cmp q a ≡ s → (t : Bool) → eq_by_cmp name_cmp q b ≡ t
    → cond s u (cond t v w) ≡ cond t v (cond s u w)
over q a b apart u v w true p true r = absurd (true≢false (sym (sym ((eq_by_cmp_equiv nat_list_cmp_total).congr q b a r) ∙ p) ∙ apart))
over q a b apart u v w true p false r = refl
over q a b apart u v w false p t r = refl

-- lines with the same entries
abbrev pub AreSame : List Line → List Line → Type 0
AreSame ls ms = ((test : Line → Bool) → list_any test ms ≡ list_any test ls) × ((q : List ℕ) → fin.find name_cmp q (map entry_of ms) ≡ fin.find name_cmp q (map entry_of ls))

-- what the first rows say, the others say too
abbrev pub SayAsMuch : List Row → List Row → Type 0
SayAsMuch xs ys = (ls : List Line) → AllZip Says xs ls → AreApart ls → (ms : List Line) × AllZip Says ys ms × AreApart ms × AreSame ls ms

same : (xs : List Row) → SayAsMuch xs xs
same xs ls all apart = (ls, all, apart, (λ t. refl, λ q. refl))

skip : (x : Row) (xs ys : List Row) → SayAsMuch xs ys → SayAsMuch (x ∷ xs) (x ∷ ys)
skip x xs ys h [] all apart = absurd all
skip x xs ys h (l ∷ ls) all apart =
    let r = h ls all.1 apart.2 in
    let any = r.3.0 in
    let finds = r.3.1 in (
      l ∷ r.0,
      (all.0, r.1),
      (any (has_id l.id) ∙ apart.0, any (has_name l.name) ∙ apart.1, r.2),
      (λ t. ap (λ b. t l || b) (any t), λ q. ap (cond (eq_by_cmp name_cmp q l.name) (Some l.stored)) (finds q)),
    )

turn : (x y : Row) (xs : List Row) → SayAsMuch (x ∷ y ∷ xs) (y ∷ x ∷ xs)
turn x y xs [] all apart = absurd all
turn x y xs (l ∷ []) all apart = absurd all.1
turn x y xs (l ∷ m ∷ ls) all apart =
    let ids = or_parts (has_id l.id m) (list_any (has_id l.id) ls) apart.0 in
    let names = or_parts (has_name l.name m) (list_any (has_name l.name) ls) apart.1 in
    let rest = apart.2 in (
      m ∷ l ∷ ls,
      (all.1.0, (all.0, all.1.1)),
      (or_from (has_id m.id l) (list_any (has_id m.id) ls) (id_symm l.id m.id ∙ ids.0) rest.0, or_from (has_name m.name l) (list_any (has_name m.name) ls) (name_symm m.name l.name ∙ names.0) rest.1, (ids.1, names.1, rest.2)),
      (λ t. swap_or (t m) (t l) (list_any t ls), λ q. over q m.name l.name names.0 _ _ _ (eq_by_cmp name_cmp q m.name) refl (eq_by_cmp name_cmp q l.name) refl),
    )

chain : (xs ys zs : List Row) → SayAsMuch xs ys → SayAsMuch ys zs → SayAsMuch xs zs
chain xs ys zs h k ls all apart = let r = h ls all apart in let s = k r.0 r.1 r.2 in (s.0, s.1, s.2, (λ t. s.3.0 t ∙ r.3.0 t, λ q. s.3.1 q ∙ r.3.1 q))

stands : (xs ys : List Row) → SayAsMuch xs ys → (book : Cells) → StandsFor xs book → StandsFor ys book
stands xs ys as_much book s =
    let r = as_much s.lines s.each s.apart in
    record {
      lines = r.0;
      each = r.1;
      apart = r.2;
      book_is = same_rows _ _ (λ q. get-from_entries nat_list_cmp_total (map entry_of r.0) q ∙ r.3.1 q ∙ sym (get-from_entries nat_list_cmp_total (map entry_of s.lines) q)) ∙ s.book_is;
    }

pub shuffled : (xs ys : List Row) (book : Cells) → IsPermutation xs ys → StandsFor xs book → StandsFor ys book
shuffled xs ys book p = stands xs ys (along_permutation SayAsMuch same skip turn chain xs ys p) book

-- ---- a row more

-- a new name in front of the others
pub stands_more : (rows : List Row) (book : Cells) (row : Row) (l : Line) → Says row l → StandsFor rows book → list_any (has_rowid l.id) rows ≡ false → fin.contains_key book l.name ≡ false
    → StandsFor (row ∷ rows) (fin.insert book l.name l.stored)
stands_more rows book row l says s free absent = record {
  lines = l ∷ s.lines;
  each = (says, s.each);
  apart = (sym (any_rows l.id rows s.lines s.each) ∙ free, any_known l.name rows book s ∙ absent, s.apart);
  book_is = ap (λ b. fin.insert b l.name l.stored) s.book_is;
}

-- the row in its place says what it says in front
put_says : (row : Row) (id : ℤ) → column row 0 ≡ Int id → (rows : List Row) → list_any (has_rowid id) rows ≡ false → SayAsMuch (row ∷ rows) (put_row row rows)
put_says row id is [] free = same (row ∷ [])
put_says row id is (r ∷ rows) free =
    let parts = or_parts (has_rowid id r) (list_any (has_rowid id) rows) free in
    subst (λ v. SayAsMuch (row ∷ r ∷ rows) (match_ordering (value_cmp (rowid r) v) (r ∷ put_row row rows) (row ∷ rows) (row ∷ r ∷ rows))) (sym is)
    (elim (value_cmp (rowid r) (Int id)) as (λ o. is_eq o ≡ false → SayAsMuch (row ∷ r ∷ rows) (match_ordering o (r ∷ put_row row rows) (row ∷ rows) (row ∷ r ∷ rows))) [
      | Less ↦ λ e. chain (row ∷ r ∷ rows) (r ∷ row ∷ rows) (r ∷ put_row row rows) (turn row r rows) (skip r (row ∷ rows) (put_row row rows) (put_says row id is rows parts.1))
      | Equal ↦ λ e. absurd cc
      | Greater ↦ λ e. same (row ∷ r ∷ rows)
    ] parts.0)

pub stands_put : (rows : List Row) (book : Cells) (row : Row) (new : Line) → Says row new → StandsFor rows book → list_any (has_rowid new.id) rows ≡ false → fin.contains_key book new.name ≡ false
    → StandsFor (put_row row rows) (fin.insert book new.name new.stored)
stands_put rows book row new says s free absent =
    stands (row ∷ rows) (put_row row rows) (put_says row new.id says.id rows free) _ (stands_more rows book row new says s free absent)

-- ---- a row less

none_passes : (test : Row → Bool) (rows : List Row) → list_any test rows ≡ false → (filter test rows ≡ []) × (filter (λ r. not (test r)) rows ≡ rows)
none_passes test [] e = (refl, refl)
none_passes test (r ∷ rows) e =
    let parts = or_parts (test r) (list_any test rows) e in
    let rest = none_passes test rows parts.1 in
    rw parts.0 (rest.0, ap (λ rs. r ∷ rs) rest.1)

-- the row is the one that the test finds, and the table has it in front of the others
pub record IsRowOf (test : Row → Bool) (name : List ℕ) (rows : List Row) (r : Row) (l : Line) : Type 0 where
  pub says : Says r l
  pub named : l.name ≡ name
  pub alone : filter test rows ≡ r ∷ []
  pub moved : SayAsMuch rows (r ∷ without_rowid l.id rows)
  pub free : list_any (has_rowid l.id) (without_rowid l.id rows) ≡ false
  pub others : (id : ℤ) → list_any (has_rowid id) rows ≡ false → has_id id l ≡ false

module _ (test : Row → Bool) (name : List ℕ) (finds : (r : Row) (l : Line) → Says r l → test r ≡ has_name name l) where
  row_in : (rows : List Row) (ls : List Line) → AllZip Says rows ls → AreApart ls → list_any (has_name name) ls ≡ true → (r : Row) × (l : Line) × IsRowOf test name rows r l
  row_in [] [] all apart e = absurd cc
  row_in (r ∷ rows) (l ∷ ls) all apart e = elim (has_name name l) as (λ b. has_name name l ≡ b → (x : Row) × (y : Line) × IsRowOf test name (r ∷ rows) x y) [
    | true ↦ λ p.
        let is = same_name name l.name p in
        let own : has_rowid l.id r ≡ true = numbered l.id r l all.0 ∙ (eq_by_cmp_equiv value_cmp_total).refl (Int l.id) in
        let free : list_any (has_rowid l.id) rows ≡ false = any_rows l.id rows ls all.1 ∙ apart.0 in
        let rest : without_rowid l.id (r ∷ rows) ≡ rows = ap (λ b. cond (not b) (r ∷ without_rowid l.id rows) (without_rowid l.id rows)) own ∙ (none_passes (has_rowid l.id) rows free).1 in
        let none : list_any test rows ≡ false = any_line test (has_name name) finds rows ls all.1 ∙ subst (λ n. list_any (has_name n) ls ≡ false) (sym is) apart.1 in (
          r,
          l,
          record {
            says = all.0;
            named = sym is;
            alone = ap (λ b. cond b (r ∷ filter test rows) (filter test rows)) (finds r l all.0 ∙ p) ∙ ap (λ rs. r ∷ rs) (none_passes test rows none).0;
            moved = subst (λ rs. SayAsMuch (r ∷ rows) (r ∷ rs)) (sym rest) (same (r ∷ rows));
            free = subst (λ rs. list_any (has_rowid l.id) rs ≡ false) (sym rest) free;
            others = λ id none. sym (numbered id r l all.0) ∙ (or_parts (has_rowid id r) (list_any (has_rowid id) rows) none).0;
          },
        )
    | false ↦ λ p.
        let rest = row_in rows ls all.1 apart.2 (sym (ap (λ b. b || list_any (has_name name) ls) p) ∙ e) in
        let x = rest.1 in
        let it = rest.2 in
        let other : has_rowid x.id r ≡ false = numbered x.id r l all.0 ∙ id_symm l.id x.id ∙ it.others l.id (any_rows l.id rows ls all.1 ∙ apart.0) in
        let left : without_rowid x.id (r ∷ rows) ≡ r ∷ without_rowid x.id rows = ap (λ b. cond (not b) (r ∷ without_rowid x.id rows) (without_rowid x.id rows)) other in (
          rest.0,
          x,
          record {
            says = it.says;
            named = it.named;
            alone = ap (λ b. cond b (r ∷ filter test rows) (filter test rows)) (finds r l all.0 ∙ p) ∙ it.alone;
            moved = subst (λ rs. SayAsMuch (r ∷ rows) (rest.0 ∷ rs)) (sym left)
                (chain (r ∷ rows) (r ∷ rest.0 ∷ without_rowid x.id rows) (rest.0 ∷ r ∷ without_rowid x.id rows) (skip r rows (rest.0 ∷ without_rowid x.id rows) it.moved) (turn r rest.0 (without_rowid x.id rows)));
            free = subst (λ rs. list_any (has_rowid x.id) rs ≡ false) (sym left) (or_from (has_rowid x.id r) _ other it.free);
            others = λ id none. it.others id (or_parts (has_rowid id r) (list_any (has_rowid id) rows) none).1;
          },
        )
  ] refl
  row_in _ _ all apart e = absurd all

  -- the row of a name that the book has
  pub row_of : (rows : List Row) (book : Cells) (s : StandsFor rows book) → fin.contains_key book name ≡ true → (r : Row) × (l : Line) × IsRowOf test name rows r l
  row_of rows book s there = row_in rows s.lines s.each s.apart (any_known name rows book s ∙ there)

-- the row in front taken away
front_less : (row : Row) (rows : List Row) (book : Cells) (l : Line) → Says row l → StandsFor (row ∷ rows) book → (fin.get book l.name ≡ Some l.stored) × StandsFor rows (fin.remove book l.name)
front_less row rows book l says s = by_lines s.lines s.each s.apart s.book_is
  where
    by_lines : (ls : List Line) → AllZip Says (row ∷ rows) ls → AreApart ls → fin.from_entries (map entry_of ls) ≡ book → (fin.get book l.name ≡ Some l.stored) × StandsFor rows (fin.remove book l.name)
    by_lines [] all apart is = absurd all
    by_lines (m ∷ ls) all apart is =
        let rest = fin.from_entries {R = name_cmp} (map entry_of ls) in
        let others : StandsFor rows rest = record { lines = ls; each = all.1; apart = apart.2; book_is = refl } in
        let absent = sym (any_known m.name rows rest others) ∙ apart.1 in
        subst (λ (l : Line). (fin.get book l.name ≡ Some l.stored) × StandsFor rows (fin.remove book l.name)) (sym (said_once row l m says all.0)) (
          ap (λ b. fin.get b m.name) (sym is) ∙ get-insert nat_list_cmp_total rest m.name m.stored m.name ∙ ap (λ b. cond b (Some m.stored) (fin.get rest m.name)) ((eq_by_cmp_equiv nat_list_cmp_total).refl m.name),
          subst (StandsFor rows) (sym (ap (λ b. fin.remove b m.name) (sym is) ∙ removed_again rest m.name m.stored absent)) others,
        )

pub stands_without : (test : Row → Bool) (rows : List Row) (book : Cells) (name : List ℕ) (s : StandsFor rows book) (r : Row) (l : Line) → IsRowOf test name rows r l
    → (fin.get book name ≡ Some l.stored) × StandsFor (without_rowid l.id rows) (fin.remove book name)
stands_without test rows book name s r l it =
    subst (λ n. (fin.get book n ≡ Some l.stored) × StandsFor (without_rowid l.id rows) (fin.remove book n)) it.named
    (front_less r (without_rowid l.id rows) book l it.says (stands rows (r ∷ without_rowid l.id rows) it.moved book s))

-- ---- what the query shows

each_shown : (rows : List Row) (ls : List Line) → AllZip Says (map shown rows) ls → AllZip Says rows ls
each_shown [] [] all = tt
each_shown (r ∷ rows) (l ∷ ls) all = (record { id = all.0.id; name = all.0.name; is_name = all.0.is_name; stored = all.0.stored }, each_shown rows ls all.1)
each_shown _ _ all = absurd all

-- the rows of the answer stand for the book that the table's rows stand for
pub stands_unshown : (table answer : List Row) (book : Cells) → IsPermutation answer (map shown table) → StandsFor answer book → StandsFor table book
stands_unshown table answer book p s = let t = shuffled answer (map shown table) book p s in record { lines = t.lines; each = each_shown table t.lines t.each; apart = t.apart; book_is = t.book_is }

counted : (test : Row → Bool) (rows answer : List Row) → IsPermutation answer (map shown rows) → length (filter test answer) ≡ length (filter (λ r. test (shown r)) rows)
counted test rows answer p =
    sym (length_permutation _ _ (IsPermutation-filter test answer (map shown rows) p)) ∙ ap length (filter-map test shown rows) ∙ length-map (filter (λ r. test (shown r)) rows) shown

module _ (table answer : List Row) (p : IsPermutation answer (map shown table)) where
  any_unshown : (test : Row → Bool) → list_any test answer ≡ list_any (λ r. test (shown r)) table
  any_unshown test = list_any-IsPermutation test answer (map shown table) p ∙ any_map test shown table

  -- what is wrong with the rows of the answer is wrong with the table's
  pub fault_unshown : (fault : OpenFault) → AreAtFault answer fault → AreAtFault table fault
  fault_unshown (fault.NoName id) h = sym (any_unshown (λ row. has_rowid id row && is_no_name (column row 1))) ∙ h
  fault_unshown (fault.NoRecord id why) h = sym (any_unshown (λ row. has_rowid id row && is_no_record why (column row 2))) ∙ h
  fault_unshown (fault.Twice id) h = sym (λ i. list_any (λ row. has_rowid id row && any_unshown (λ other. not (agree 0 row other) && agree 1 row other) i) table) ∙ sym (any_unshown (λ row. has_rowid id row && is_repeated answer row)) ∙ h
  fault_unshown fault.TooMany h = omega (arith, length_permutation answer (map shown table) p, length-map table shown, h)
  fault_unshown fault.Memory h = tt
  fault_unshown (fault.Database e) h = (
    h.0,
    elim h.1 [
      | inl bad ↦ inl (sym (any_unshown (λ row. not (is_int (column row 0)))) ∙ bad)
      | inr two ↦ inr (two.0, omega (arith, two.1, counted (has_rowid two.0) table answer p))
    ],
  )
  fault_unshown _ h = h
