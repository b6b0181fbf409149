-- The marks of accounts that are changed in turn, in memory and in the table.
use Rattle.std.proofs.Common.{◌≡◌, ℕ, List, [], ◌∷◌, Bool, true, false, cond, not, ◌&&◌, Option, Some, is_some, refl, sym, ap, subst, ◌∙◌}
use Rattle.std.specs.{Ordering.eq_by_cmp, Cmp.Equal-is, Cmp.eq_by_cmp_equiv, Cmp.Lexicographic.nat_list_cmp_total}
use Rattle.std.specs.FinMap as fin
use Rattle.std.specs.FinMap.{get-entries}
use Rattle.sqlite.specs.State.{State, HasCleanDisk}
use Rattle.cred_phc.specs.Values.{RecordValue}
use Rattle.cred_book.proofs.Rows.{same_names}
use Rattle.cred_book.specs.{Accounts.Accounts, Names.name_cmp}
use Rattle.cred_file.specs.declared.marks.Mark.{Mark}
use Rattle.cred_file.specs.Cells.{AllMarks, Cells, cell, cells_of, marked}
use Rattle.cred_file.specs.{Changes.AreThere, Changes.joined, Keeps.Has, Keeps.Lacks}
use Rattle.cred_file.specs.Transactions.{AgreeOn, IsUnderWay, MakesWithin, marks_with}
use Rattle.cred_file.proofs.CellLaws.{cells_put, has_cell}
use Rattle.cred_file.proofs.Joined.{AreLeft, AreReplaced, Entries, all_entered, among, none_again, none_replaced, one_replaced, still_there, tied}

-- with those of the accounts that are no longer left changed
abbrev pub so_far : (List ℕ → Mark → Mark) → AllMarks → Accounts → Entries → AllMarks
so_far f m more rest q = cond (fin.contains_key more q && not (is_some (fin.find name_cmp q rest))) (f q (m q)) (m q)

itself : (b : Bool) → (b && not b) ≡ false
itself true = refl
itself false = refl

whole : (b : Bool) → (b && true) ≡ b
whole true = refl
whole false = refl

none_more : (b : Bool) → (b && false) ≡ false
none_more true = refl
none_more false = refl

module _ (f : List ℕ → Mark → Mark) (m : AllMarks) (more : Accounts) where
  pub none_so_far : so_far f m more (fin.entries more) ≡ m
  none_so_far =
      let at : (q : List ℕ) → so_far f m more (fin.entries more) q ≡ m q = λ q.
      ap (λ o. cond (fin.contains_key more q && not (is_some o)) (f q (m q)) (m q)) (sym (get-entries more q)) ∙ ap (λ b. cond b (f q (m q)) (m q)) (itself (fin.contains_key more q)) in
      λ i q. at q i

  pub all_so_far : (rest : Entries) → rest ≡ [] → so_far f m more rest ≡ marks_with f m more
  all_so_far rest none =
      let at : (q : List ℕ) → so_far f m more rest q ≡ marks_with f m more q = λ q.
      ap (λ es. so_far f m more es q) none ∙ ap (λ b. cond b (f q (m q)) (m q)) (whole (fin.contains_key more q)) in
      λ i q. at q i

  pub one_so_far : (rest left : Entries) (k : List ℕ) (slot : Option RecordValue) → AreLeft more rest → rest ≡ (k, slot) ∷ left → marked (so_far f m more rest) k (f k (m k)) ≡ so_far f m more left
  one_so_far rest left k slot was is =
      let are : AreLeft more ((k, slot) ∷ left) = subst (AreLeft more) is was in
      let at : (q : List ℕ) → marked (so_far f m more rest) k (f k (m k)) q ≡ so_far f m more left q = λ q.
      ap (λ es. marked (so_far f m more es) k (f k (m k)) q) is
      ∙ elim (eq_by_cmp name_cmp q k) as (λ b. eq_by_cmp name_cmp q k ≡ b → cond b (f k (m k)) (cond (fin.contains_key more q && not (is_some (cond b (Some slot) (fin.find name_cmp q left)))) (f q (m q)) (m q)) ≡ so_far f m more left q) [
        | true ↦ λ tie.
            let same : q ≡ k = same_names q k ((Equal-is (name_cmp q k)).0 tie) in
            let has : fin.contains_key more q ≡ true = ap is_some (tied more k q tie) ∙ among more k slot left are in
            let gone = none_again more k slot left are q tie in
            ap (λ n. f n (m n)) (sym same) ∙ sym (ap (λ b. cond (b && not (is_some (fin.find name_cmp q left))) (f q (m q)) (m q)) has ∙ ap (λ o. cond (not (is_some o)) (f q (m q)) (m q)) gone)
        | false ↦ λ tie. refl
      ] refl in
      λ i q. at q i

  -- the first of those that are left has the mark that it had
  pub still_so : (rest left : Entries) (k : List ℕ) (slot : Option RecordValue) → rest ≡ (k, slot) ∷ left → so_far f m more rest k ≡ m k
  still_so rest left k slot is =
      let tie : eq_by_cmp name_cmp k k ≡ true = (eq_by_cmp_equiv nat_list_cmp_total).refl k in
      ap (λ es. so_far f m more es k) is ∙ ap (λ b. cond (fin.contains_key more k && not (is_some (cond b (Some slot) (fin.find name_cmp k left)))) (f k (m k)) (m k)) tie
      ∙ ap (λ b. cond b (f k (m k)) (m k)) (none_more (fin.contains_key more k))

  -- one account more is put in the table, with its mark
  pub one_under : (new : State) (first : Cells) (now : Accounts) (rest left : Entries) (k : List ℕ) (v slot : Option RecordValue) → AreLeft more rest → rest ≡ (k, slot) ∷ left
      → IsUnderWay new first (fin.insert (cells_of now (so_far f m more rest)) k (cell v (f k (m k)))) → IsUnderWay new first (cells_of (fin.insert now k v) (so_far f m more left))
  one_under new first now rest left k v slot was is under =
      let cells = ap (cells_of (fin.insert now k v)) (sym (one_so_far rest left k slot was is)) ∙ cells_put now (so_far f m more rest) k (f k (m k)) v in
      subst (IsUnderWay new first) (sym cells) under

  -- and in memory
  pub one_marked : (now after : AllMarks) (rest left : Entries) (k : List ℕ) (slot : Option RecordValue) → AreLeft more rest → now ≡ so_far f m more rest → rest ≡ (k, slot) ∷ left → after ≡ marked now k (f k (m k))
      → after ≡ so_far f m more left
  one_marked now after rest left k slot are was is put = put ∙ ap (λ n. marked n k (f k (m k))) was ∙ one_so_far rest left k slot are is

-- ---- accounts that are added, in the table

pub one_added : (mid new : State) (f : List ℕ → Mark → Mark) (m : AllMarks) (first : Cells) (more now after : Accounts) (rest left : Entries) (k : List ℕ) (v slot : Option RecordValue) (mark : Mark) → AreLeft more rest → rest ≡ (k, slot) ∷ left
    → fin.contains_key now k ≡ false → after ≡ fin.insert now k v → mark ≡ f k (m k) → MakesWithin mid new (Lacks k) (λ b. fin.insert b k (cell v mark))
    → IsUnderWay mid first (cells_of now (so_far f m more rest)) → IsUnderWay new first (cells_of after (so_far f m more left))
one_added mid new f m first more now after rest left k v slot mark are is absent put same does under =
    let far = so_far f m more rest in
    subst (λ b. IsUnderWay new first (cells_of b (so_far f m more left))) (sym put) (one_under f m more new first now rest left k v slot are is
    (subst (λ n. IsUnderWay new first (fin.insert (cells_of now far) k (cell v n))) same (does first (cells_of now far) (has_cell far now k ∙ absent) under)))

-- ---- accounts whose records are replaced, in the table, whatever book it stood for

abbrev pub AreUpdated : State → State → (List ℕ → Mark → Mark) → AllMarks → Accounts → Entries → Type 0
AreUpdated old new f held more rest =
    HasCleanDisk new → (first : Cells) (book : Accounts) (m : AllMarks) → AreThere book more → AgreeOn more m held → IsUnderWay old first (cells_of book m)
    → (now : Accounts) × IsUnderWay new first (cells_of now (so_far f m more rest)) × AreReplaced book more now rest

pub none_updated : (s : State) (f : List ℕ → Mark → Mark) (held : AllMarks) (more : Accounts) → AreUpdated s s f held more (fin.entries more)
none_updated s f held more clean first book m there agree begun =
    (book, subst (λ n. IsUnderWay s first (cells_of book n)) (sym (none_so_far f m more)) begun, none_replaced book more there)

pub one_updated : (old mid new : State) (f : List ℕ → Mark → Mark) (held : AllMarks) (more : Accounts) (rest left : Entries) (k : List ℕ) (v slot : Option RecordValue) → AreUpdated old mid f held more rest → rest ≡ (k, slot) ∷ left → v ≡ slot
    → (HasCleanDisk new → HasCleanDisk mid) → (HasCleanDisk new → MakesWithin mid new (Has k) (λ b. fin.insert b k (cell v (f k (held k))))) → AreUpdated old new f held more left
one_updated old mid new f held more rest left k v slot was is same early does clean first book m there agree begun =
    let now = was (early clean) first book m there agree begun in
    let are = now.2.entered.are in
    let here = still_there book more now.0 rest left k slot now.2 is in
    let far = so_far f m more rest in
    let alike : m k ≡ held k = agree k (among more k slot left (subst (AreLeft more) is are)) in
    let put = subst (λ n. IsUnderWay new first (fin.insert (cells_of now.0 far) k (cell v (f k n)))) (sym alike) (does clean first (cells_of now.0 far) (has_cell far now.0 k ∙ here) now.1) in
    (fin.insert now.0 k v, one_under f m more new first now.0 rest left k v slot are is put, one_replaced book more now.0 _ rest left k v slot now.2 is same refl)

pub all_updated : (old new : State) (f : List ℕ → Mark → Mark) (held : AllMarks) (more : Accounts) (rest : Entries) → AreUpdated old new f held more rest → rest ≡ [] → HasCleanDisk new
    → (first : Cells) (book : Accounts) (m : AllMarks) → AreThere book more → AgreeOn more m held → IsUnderWay old first (cells_of book m) → IsUnderWay new first (cells_of (joined book more) (marks_with f m more))
all_updated old new f held more rest was none clean first book m there agree begun =
    let now = was clean first book m there agree begun in
    let all = all_entered book more now.0 rest now.2.entered none in
    let marks = all_so_far f m more rest none in
    subst (IsUnderWay new first) (λ i. cells_of (all i) (marks i)) now.1
