-- The accounts of two books with their marks, as those of one are added to the other.
use Rattle.std.proofs.Common.{arith, ◌≡◌, ℕ, List, [], ◌∷◌, ◌++◌, Bool, true, false, cond, Option, Some, None, is_some, unwrap_or, refl, sym, ap, subst, ◌∙◌}
use Rattle.std.specs.{Option.option_map, Option.option_or, Ordering.eq_by_cmp}
use Rattle.std.specs.FinMap as fin
use Rattle.std.specs.FinMap.{get-empty, get-entries, get-from_entries}
use Rattle.std.specs.Cmp.Lexicographic.{nat_list_cmp_total}
use Rattle.sqlite.specs.State.{State, HasCleanDisk, Survives}
use Rattle.cred_phc.specs.Values.{RecordValue}
use Rattle.cred_book.proofs.Rows.{same_rows}
use Rattle.cred_book.specs.{Accounts.Accounts, Names.name_cmp}
use Rattle.cred_file.specs.declared.marks.Mark.{Mark}
use Rattle.cred_file.specs.Cells.{AllMarks, Cell, Cells, Marks, cell, cells_of, mark_at, mark_in, renewed, renewed_with, unmarked}
use Rattle.cred_file.specs.{Changes.AreApart, Changes.AreThere, Changes.joined, Changes.joined_cells, Changes.taken_cells, Changes.taken_in, Changes.with_added}
use Rattle.cred_file.specs.Transactions.{AgreeOn, IsUnderWay, added_mark, changed_mark, changed_marks, marks_with, taken_marks}
use Rattle.cred_file.proofs.CellLaws.{get_cells, len_cells, mark_here}
use Rattle.cred_file.proofs.Joined.{deeper, get_joined, there_still}

find_both : (front more : List (List ℕ × Cell)) (q : List ℕ) → fin.find name_cmp q (front ++ more) ≡ option_or (fin.find name_cmp q front) (fin.find name_cmp q more)
find_both [] more q = refl
find_both (f ∷ fs) more q =
    ap (cond (eq_by_cmp name_cmp q f.0) (Some f.1)) (find_both fs more q) ∙ deeper (eq_by_cmp name_cmp q f.0) f.1 (fin.find name_cmp q fs) (fin.find name_cmp q more)

pub get_both : (cells more : Cells) (q : List ℕ) → fin.get (joined_cells cells more) q ≡ option_or (fin.get more q) (fin.get cells q)
get_both cells more q =
    get-from_entries nat_list_cmp_total (fin.entries more ++ fin.entries cells) q ∙ find_both (fin.entries more) (fin.entries cells) q
    ∙ (λ i. option_or (sym (get-entries more q) i) (sym (get-entries cells q) i))

-- accounts with equal marks
pub cells_agree : (m n : AllMarks) (more : Accounts) → AgreeOn more m n → cells_of more m ≡ cells_of more n
cells_agree m n more agree = same_rows _ _ (λ q.
    get_cells m more q ∙ by_name q (fin.get more q) (agree q) ∙ sym (get_cells n more q))
  where
    by_name : (q : List ℕ) (o : Option (Option RecordValue)) → (is_some o ≡ true → m q ≡ n q) → option_map (λ v. cell v (m q)) o ≡ option_map (λ v. cell v (n q)) o
    by_name q None same = refl
    by_name q (Some v) same = ap (λ k. Some (cell v k)) (same refl)

-- the accounts of both, with their marks
pub joined_is : (f : List ℕ → Mark → Mark) (m : AllMarks) (book more : Accounts)
    → cells_of (joined book more) (marks_with f m more) ≡ joined_cells (cells_of book m) (cells_of more (λ q. f q (m q)))
joined_is f m book more = same_rows _ _ (λ q.
    get_cells (marks_with f m more) (joined book more) q
    ∙ ap (option_map (λ v. cell v (marks_with f m more q))) (get_joined book more q)
    ∙ by_more q (fin.get more q) (fin.get book q)
    ∙ sym (get_both (cells_of book m) (cells_of more (λ q. f q (m q))) q ∙ (λ i. option_or (get_cells (λ q. f q (m q)) more q i) (get_cells m book q i))))
  where
    by_more : (q : List ℕ) (o p : Option (Option RecordValue))
        → option_map (λ v. cell v (cond (is_some o) (f q (m q)) (m q))) (option_or o p) ≡ option_or (option_map (λ v. cell v (f q (m q))) o) (option_map (λ v. cell v (m q)) p)
    by_more q None p = refl
    by_more q (Some v) p = refl

-- what a batch makes of them
pub cells_taken : (m : AllMarks) (given : Marks) (book added changed : Accounts) → AreThere book changed
    → cells_of (taken_in book added changed) (taken_marks m added changed given) ≡ taken_cells (cells_of book m) added changed given
cells_taken m given book added changed there =
    let mid = marks_with (added_mark given) m added in
    let first : cells_of (joined book added) mid ≡ with_added (cells_of book m) added given = joined_is (added_mark given) m book added in
    let agree : AgreeOn changed (λ q. changed_mark given q (mid q)) (λ q. renewed_with (mark_at given q) (mark_in (with_added (cells_of book m) added given) q)) = λ q has.
    ap (renewed_with (mark_at given q)) (sym (mark_here mid (joined book added) q (there_still book added changed there q has)) ∙ ap (λ (c : Cells). mark_in c q) first) in
    joined_is (changed_mark given) mid (joined book added) changed
    ∙ (λ i. joined_cells (first i) (cells_agree _ _ changed agree i))

pub len_taken_cells : (m : AllMarks) (given : Marks) (book added changed : Accounts) → AreThere book changed
    → fin.len (taken_cells (cells_of book m) added changed given) ≡ fin.len (taken_in book added changed)
len_taken_cells m given book added changed there =
    ap (λ (c : Cells). fin.len c) (sym (cells_taken m given book added changed there)) ∙ len_cells _ (taken_in book added changed)

-- names of the changed accounts are none of the added
pub unadded : (m held : AllMarks) (given : Marks) (book added changed : Accounts) → AreApart book added → AreThere book changed → held ≡ m
    → AgreeOn changed (marks_with (added_mark given) m added) held
unadded m held given book added changed apart there same q has =
    by_added (fin.contains_key added q) (λ e. sym (there q has) ∙ apart q e) ∙ sym (ap (λ (n : AllMarks). n q) same)
  where
    by_added : (b : Bool) → (b ≡ true → true ≡ false) → cond b (mark_at given q) (m q) ≡ m q
    by_added true never = absurd (let e = never refl in cc)
    by_added false never = refl

-- accounts are entered, and then others have the records of these
pub written : {start mid more : State} (m held : AllMarks) (given : Marks) (book entered added changed : Accounts) → AreApart book added → AreThere book changed → held ≡ m → entered ≡ joined book added
    → IsUnderWay start (cells_of book m) (cells_of book m) → Survives mid more (λ _. ⊥)
    → (HasCleanDisk mid → (first : Cells) (marks : AllMarks) → IsUnderWay start first (cells_of book marks) → IsUnderWay mid first (cells_of entered (marks_with (added_mark given) marks added)))
    → (HasCleanDisk more → (first : Cells) (book : Accounts) (n : AllMarks) → AreThere book changed → AgreeOn changed n held → IsUnderWay mid first (cells_of book n)
    → IsUnderWay more first (cells_of (joined book changed) (marks_with (changed_mark given) n changed)))
    → HasCleanDisk more → IsUnderWay more (cells_of book m) (taken_cells (cells_of book m) added changed given)
written {mid = mid} {more = more} m held given book entered added changed apart there same is first s enters updates clean =
    let early : HasCleanDisk mid = omega (arith, s.clean, clean) in
    let cells = cells_of book m in
    let far = marks_with (added_mark given) m added in
    let half = subst (λ (b : Accounts). IsUnderWay mid cells (cells_of b far)) is (enters early cells m first) in
    subst (IsUnderWay more cells) (cells_taken m given book added changed there)
    (updates clean cells (joined book added) far (there_still book added changed there) (unadded m held given book added changed apart there same) half)

-- ---- what an empty book becomes

pub none_apart : (book more : Accounts) → book ≡ fin.empty → AreApart book more
none_apart book more is q has = ap (λ (b : Accounts). is_some (fin.get b q)) is ∙ ap is_some (get-empty name_cmp q)

pub taken_cells_whole : (m : AllMarks) (book none more : Accounts) (given : Marks) → book ≡ fin.empty → none ≡ fin.empty → taken_cells (cells_of book m) more none given ≡ cells_of more (mark_at given)
taken_cells_whole m book none more given is nothing = same_rows _ _ (λ q.
    let first = with_added (cells_of book m) more given in
    get_both first _ q
    ∙ ap (λ o. option_or o (fin.get first q)) (get_cells _ none q ∙ no_cell q none _ nothing)
    ∙ get_both (cells_of book m) (cells_of more (mark_at given)) q
    ∙ ap (option_or (fin.get (cells_of more (mark_at given)) q)) (get_cells m book q ∙ no_cell q book (m q) is)
    ∙ or_none (fin.get (cells_of more (mark_at given)) q))
  where
    no_cell : (q : List ℕ) (b : Accounts) (k : Mark) → b ≡ fin.empty → option_map (λ v. cell v k) (fin.get b q) ≡ None
    no_cell q b k is = ap (λ (b : Accounts). option_map (λ v. cell v k) (fin.get b q)) is ∙ ap (option_map (λ v. cell v k)) (get-empty name_cmp q)

    or_none : (o : Option Cell) → option_or o None ≡ o
    or_none None = refl
    or_none (Some x) = refl

-- the marks where nothing is added and no mark is given
pub taken_bare : (m : AllMarks) (none changed : Accounts) (given : Marks) → none ≡ fin.empty → given ≡ fin.empty → taken_marks m none changed given ≡ changed_marks renewed m changed
taken_bare m none changed given is bare =
    let at : (q : List ℕ) → taken_marks m none changed given q ≡ changed_marks renewed m changed q = λ q.
    let lacks : fin.contains_key none q ≡ false = ap (λ (b : Accounts). is_some (fin.get b q)) is ∙ ap is_some (get-empty name_cmp q) in
    let unmarked_at : mark_at given q ≡ unmarked = ap (λ (g : Marks). mark_at g q) bare ∙ ap (λ o. unwrap_or o unmarked) (get-empty name_cmp q) in
    ap (λ n. cond (fin.contains_key changed q) (renewed_with (mark_at given q) n) n) (ap (λ b. cond b (mark_at given q) (m q)) lacks)
    ∙ ap (λ k. cond (fin.contains_key changed q) (renewed_with k (m q)) (m q)) unmarked_at in
    λ i q. at q i
