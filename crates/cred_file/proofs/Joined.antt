-- The accounts of two books, when those of one are added to the other and removed again.
use Rattle.std.proofs.Common.{◌≡◌, ◌⊎◌, inl, inr, ◌+◌, ◌≤◌, ℕ, List, [], ◌∷◌, ◌++◌, length, Bool, true, false, cond, T, Option, Some, None, is_some, refl, sym, ap, subst, ◌∙◌, arith}
use Rattle.std.proofs.lemmas.Bool.{cond_both}
use lib.Ieee.Fits.{and_l, and_r}
use Rattle.std.specs.{Option.option_or, Ordering.eq_by_cmp, Ordering.is_eq, Ordering.is_lt, declared.cmp.Ordering.Ordering}
use Rattle.std.specs.declared.cmp.Ordering.TheVariants.{Less, Equal, Greater}
use Rattle.std.specs.Cmp.{Equal-is, eq_by_cmp_equiv}
use Rattle.std.specs.FinMap as fin
use Rattle.std.specs.FinMap.Entries.{below_all}
use Rattle.std.specs.FinMap.{get-empty, get-entries, get-from_entries, get-insert, get-remove, len-entries, len-insert}
use Rattle.std.specs.Cmp.Lexicographic.{nat_list_cmp_total}
use Rattle.cred_phc.specs.Values.{RecordValue}
use Rattle.cred_book.proofs.Rows.{no_some, same_rows}
use Rattle.cred_book.specs.{Accounts.Accounts, Names.name_cmp}
use Rattle.cred_file.specs.{Changes.AreApart, Changes.AreThere, Changes.joined, Changes.taken_in}
use Rattle.cred_file.specs.Transactions.{KeepsOthers}

abbrev pub Entries : Type 0
Entries = List (List ℕ × Option RecordValue)

abbrev find : List ℕ → Entries → Option (Option RecordValue)
find q es = fin.find name_cmp q es

abbrev ties : List ℕ → List ℕ → Bool
ties q name = eq_by_cmp name_cmp q name

-- names that tie are in a book both or neither
pub tied : (book : Accounts) (key q : List ℕ) → ties q key ≡ true → fin.get book q ≡ fin.get book key
tied book key q e = fin.get_tied nat_list_cmp_total book key q ((Equal-is _).0 (sym ((eq_by_cmp_equiv nat_list_cmp_total).symm q key) ∙ e))

-- ---- what is found in two books

pub deeper : {X : Type 0} (c : Bool) (x : X) (o p : Option X) → cond c (Some x) (option_or o p) ≡ option_or (cond c (Some x) o) p
deeper true x o p = refl
deeper false x o p = refl

find_append : (front more : Entries) (q : List ℕ) → find q (front ++ more) ≡ option_or (find q front) (find q more)
find_append [] more q = refl
find_append (f ∷ fs) more q = ap (cond (ties q f.0) (Some f.1)) (find_append fs more q) ∙ deeper (ties q f.0) f.1 (find q fs) (find q more)

get_behind : (front : Entries) (book : Accounts) (q : List ℕ) → fin.get (fin.from_entries {R = name_cmp} (front ++ fin.entries book)) q ≡ option_or (find q front) (fin.get book q)
get_behind front book q =
    get-from_entries nat_list_cmp_total (front ++ fin.entries book) q ∙ find_append front (fin.entries book) q ∙ ap (option_or (find q front)) (sym (get-entries book q))

pub get_joined : (old more : Accounts) (q : List ℕ) → fin.get (joined old more) q ≡ option_or (fin.get more q) (fin.get old q)
get_joined old more q = get_behind (fin.entries more) old q ∙ ap (λ o. option_or o (fin.get old q)) (sym (get-entries more q))

beside : {X : Type 0} (c : Bool) (x : X) (o : Option X) → is_some o ≡ true → is_some (cond c (Some x) o) ≡ true
beside c x o is = cond_both c (Some x) o (λ p. is_some p ≡ true) (λ here. refl) (λ other. is)

either_some : {X : Type 0} (o p : Option X) → is_some p ≡ true → is_some (option_or o p) ≡ true
either_some None p is = is
either_some (Some x) p is = refl

-- accounts that are added leave the others there
pub there_still : (old more changed : Accounts) → AreThere old changed → AreThere (joined old more) changed
there_still old more changed there q is = ap is_some (get_joined old more q) ∙ either_some (fin.get more q) (fin.get old q) (there q is)

pub joined_keeps : (old more : Accounts) → KeepsOthers old more (joined old more)
joined_keeps old more q absent = get_joined old more q ∙ ap (λ o. option_or o (fin.get old q)) (no_some _ absent)

-- ---- the entries that are left

less : (o : Ordering) → T (is_lt o) → is_eq o ≡ false
less Less p = refl
less Equal p = absurd p
less Greater p = absurd p

-- below all names there is none that ties
find_below : (x : List ℕ) (es : Entries) → T (below_all name_cmp x es) → (q : List ℕ) → ties q x ≡ true → find q es ≡ None
find_below x [] h q tie = refl
find_below x (e ∷ es) h q tie =
    let apart : ties q e.0 ≡ false = (eq_by_cmp_equiv nat_list_cmp_total).congr q x e.0 tie ∙ less _ (and_l _ _ h) in
    ap (λ b. cond b (Some e.1) (find q es)) apart ∙ find_below x es (and_r _ _ h) q tie

-- these are entries of a book, in order
pub record AreLeft (more : Accounts) (rest : Entries) : Type 0 where
  pub sorted : T (fin.is_sorted name_cmp rest)
  pub each : (q : List ℕ) → is_some (find q rest) ≡ true → fin.contains_key more q ≡ true

pub all_left : (more : Accounts) → AreLeft more (fin.entries more)
all_left more = record { sorted = fin.entries_sorted more; each = λ q is. ap is_some (get-entries more q) ∙ is }

module _ (more : Accounts) (k : List ℕ) (slot : Option RecordValue) (left : Entries) (are : AreLeft more ((k, slot) ∷ left)) where
  pub still_left : AreLeft more left
  still_left = record { sorted = and_r _ _ are.sorted; each = λ q is. are.each q (beside (ties q k) slot (find q left) is) }

  -- the first of them
  pub among : fin.contains_key more k ≡ true
  among = are.each k (ap (λ b. is_some (cond b (Some slot) (find k left))) ((eq_by_cmp_equiv nat_list_cmp_total).refl k))

  pub none_again : (q : List ℕ) → ties q k ≡ true → find q left ≡ None
  none_again = find_below k left (and_l _ _ are.sorted)

-- ---- the accounts that are added in turn

-- with those that are left, the book is the joined one; others are as they were
pub record AreEntered (old more now : Accounts) (rest : Entries) : Type 0 where
  pub are : AreLeft more rest
  pub joins : fin.from_entries {R = name_cmp} (rest ++ fin.entries now) ≡ joined old more
  pub others : KeepsOthers old more now

pub none_entered : (old more : Accounts) → AreEntered old more old (fin.entries more)
none_entered old more = record { are = all_left more; joins = refl; others = λ q absent. refl }

pub one_entered : (old more now after : Accounts) (rest left : Entries) (k : List ℕ) (v slot : Option RecordValue) → AreEntered old more now rest → rest ≡ (k, slot) ∷ left → v ≡ slot → after ≡ fin.insert now k v
    → AreEntered old more after left
one_entered old more now after rest left k v slot was is same put =
    subst (λ b. AreEntered old more b left) (sym (put ∙ ap (fin.insert now k) same)) (record {
      are = still_left more k slot left are;
      joins = same_rows _ _ (λ q.
          get_behind left (fin.insert now k slot) q ∙ ap (option_or (find q left)) (get-insert nat_list_cmp_total now k slot q)
          ∙ in_front (ties q k) (find q left) (none_again more k slot left are q) (fin.get now q)
          ∙ sym (get-insert nat_list_cmp_total (fin.from_entries (left ++ fin.entries now)) k slot q ∙ ap (cond (ties q k) (Some slot)) (get_behind left now q)))
          ∙ ap (λ es. fin.from_entries {R = name_cmp} (es ++ fin.entries now)) (sym is) ∙ was.joins;
      others = λ q absent. get-insert nat_list_cmp_total now k slot q ∙ apart q absent ∙ was.others q absent;
    })
  where
    are : AreLeft more ((k, slot) ∷ left)
    are = subst (AreLeft more) is was.are

    in_front : (b : Bool) (o : Option (Option RecordValue)) → (b ≡ true → o ≡ None) → (there : Option (Option RecordValue)) → option_or o (cond b (Some slot) there) ≡ cond b (Some slot) (option_or o there)
    in_front true o none there = ap (λ o. option_or o (Some slot)) (none refl)
    in_front false o none there = refl

    apart : (q : List ℕ) → fin.contains_key more q ≡ false → cond (ties q k) (Some slot) (fin.get now q) ≡ fin.get now q
    apart q absent = cond_both (ties q k) (Some slot) (fin.get now q) (λ o. o ≡ fin.get now q) (λ tie. absurd (let there = sym (ap is_some (tied more k q tie) ∙ among more k slot left are) ∙ absent in cc)) (λ other. refl)

again : (old : Accounts) → fin.from_entries (fin.entries old) ≡ old
again old = same_rows _ _ (get_behind [] old)

pub all_entered : (old more now : Accounts) (rest : Entries) → AreEntered old more now rest → rest ≡ [] → now ≡ joined old more
all_entered old more now rest was none = sym (again now) ∙ ap (λ es. fin.from_entries {R = name_cmp} (es ++ fin.entries now)) (sym none) ∙ was.joins

-- the names of a book that are there stay there
there_put : (now more : Accounts) (k : List ℕ) (v : Option RecordValue) → AreThere now more → AreThere (fin.insert now k v) more
there_put now more k v there q is = ap is_some (get-insert nat_list_cmp_total now k v q) ∙ beside (ties q k) v (fin.get now q) (there q is)

-- ---- the records that are replaced in turn

pub record AreReplaced (old more now : Accounts) (rest : Entries) : Type 0 where
  pub entered : AreEntered old more now rest
  pub there : AreThere now more

pub none_replaced : (old more : Accounts) → AreThere old more → AreReplaced old more old (fin.entries more)
none_replaced old more there = record { entered = none_entered old more; there = there }

-- a name that is left is there
pub still_there : (old more now : Accounts) (rest left : Entries) (k : List ℕ) (slot : Option RecordValue) → AreReplaced old more now rest → rest ≡ (k, slot) ∷ left → fin.contains_key now k ≡ true
still_there old more now rest left k slot was is = was.there k (among more k slot left (subst (AreLeft more) is was.entered.are))

pub one_replaced : (old more now after : Accounts) (rest left : Entries) (k : List ℕ) (v slot : Option RecordValue) → AreReplaced old more now rest → rest ≡ (k, slot) ∷ left → v ≡ slot → after ≡ fin.insert now k v
    → AreReplaced old more after left
one_replaced old more now after rest left k v slot was is same put = record {
  entered = one_entered old more now after rest left k v slot was.entered is same put;
  there = subst (λ b. AreThere b more) (sym put) (there_put now more k v was.there);
}

-- ---- and taken out again

-- without those that are left, the book lacks all of them
unfoldable pub AreRemoved : Accounts → Accounts → Accounts → Entries → Type 0
AreRemoved old more now rest = (q : List ℕ) → cond (is_some (find q rest)) None (fin.get now q) ≡ cond (fin.contains_key more q) None (fin.get old q)

pub none_removed : (old more : Accounts) → AreRemoved old more old (fin.entries more)
unfolding AreRemoved
none_removed old more q = ap (λ o. cond (is_some o) None (fin.get old q)) (sym (get-entries more q))

pub one_removed : (old more now after : Accounts) (rest left : Entries) (k : List ℕ) (slot : Option RecordValue) → AreRemoved old more now rest → rest ≡ (k, slot) ∷ left → after ≡ fin.remove now k → AreRemoved old more after left
unfolding AreRemoved
one_removed old more now after rest left k slot was is put q =
    ap (λ (b : Accounts). cond (is_some (find q left)) None (fin.get b q)) put ∙ ap (cond (is_some (find q left)) None) (get-remove nat_list_cmp_total now k q)
    ∙ by_tie (ties q k) (find q left) (fin.get now q) ∙ ap (λ es. cond (is_some (find q es)) None (fin.get now q)) (sym is) ∙ was q
  where
    by_tie : (b : Bool) (o there : Option (Option RecordValue)) → cond (is_some o) None (cond b None there) ≡ cond (is_some (cond b (Some slot) o)) None there
    by_tie true None there = refl
    by_tie true (Some x) there = refl
    by_tie false o there = refl

pub all_removed : (old more now : Accounts) (rest : Entries) → AreRemoved old more now rest → rest ≡ [] → (q : List ℕ) → fin.get now q ≡ cond (fin.contains_key more q) None (fin.get old q)
unfolding AreRemoved
all_removed old more now rest was none q = ap (λ es. cond (is_some (find q es)) None (fin.get now q)) (sym none) ∙ was q

-- what is left then is what there was
pub undone : (old more now after : Accounts) → AreApart old more → KeepsOthers old more now → ((q : List ℕ) → fin.get after q ≡ cond (fin.contains_key more q) None (fin.get now q)) → after ≡ old
undone old more now after apart others gone = same_rows _ _ (λ q.
    gone q ∙ cond_both (fin.contains_key more q) None (fin.get now q) (λ o. o ≡ fin.get old q) (λ e. sym (no_some _ (apart q e))) (others q))

-- ---- whether a name is in both

-- all but those that are left are in the book, or none of them is
pub record AreAll (is_there : Bool) (book more : Accounts) (rest : Entries) : Type 0 where
  pub are : AreLeft more rest
  pub each : (q : List ℕ) → fin.contains_key more q ≡ true → (is_some (find q rest) ≡ true) ⊎ (fin.contains_key book q ≡ is_there)

pub none_yet : (is_there : Bool) (book more : Accounts) → AreAll is_there book more (fin.entries more)
none_yet is_there book more = record { are = all_left more; each = λ q has. inl (ap is_some (sym (get-entries more q)) ∙ has) }

pub one_so : (is_there : Bool) (book more : Accounts) (rest left : Entries) (k : List ℕ) (slot : Option RecordValue) → AreAll is_there book more rest → rest ≡ (k, slot) ∷ left → fin.contains_key book k ≡ is_there
    → AreAll is_there book more left
one_so is_there book more rest left k slot was is so = record {
  are = still_left more k slot left (subst (AreLeft more) is was.are);
  each = λ q has. elim (was.each q has) [
    | inl in_rest ↦
        cond_both (ties q k) (Some slot) (find q left) (λ o. is_some o ≡ true → (is_some (find q left) ≡ true) ⊎ (fin.contains_key book q ≡ is_there))
        (λ tie some. inr (ap is_some (tied book k q tie) ∙ so)) (λ other some. inl some) (ap (λ es. is_some (find q es)) (sym is) ∙ in_rest)
    | inr done ↦ inr done
  ];
}

pub all_so : (is_there : Bool) (book more : Accounts) (rest : Entries) → AreAll is_there book more rest → rest ≡ [] → (q : List ℕ) → fin.contains_key more q ≡ true → fin.contains_key book q ≡ is_there
all_so is_there book more rest was none q has = elim (was.each q has) [ inl in_rest ↦ absurd (let e = ap (λ es. is_some (find q es)) (sym none) ∙ in_rest in cc) | inr done ↦ done ]

-- but this one isn't so
pub one_other : (is_there other : Bool) (book more : Accounts) (rest left : Entries) (k : List ℕ) (slot : Option RecordValue) → AreAll is_there book more rest → rest ≡ (k, slot) ∷ left → fin.contains_key book k ≡ other
    → (name : List ℕ) × (fin.contains_key more name ≡ true) × (fin.contains_key book name ≡ other)
one_other is_there other book more rest left k slot was is so = (k, among more k slot left (subst (AreLeft more) is was.are), so)

-- ---- how many accounts there are

grown : (b : Bool) (n m l : ℕ) → m ≡ cond b n (n + 1) → n ≤ l → m ≤ l + 1
grown true n m l is low = omega (arith, is, low)
grown false n m l is low = omega (arith, is, low)

few_from : (es : Entries) (book : Accounts) → fin.len (fin.from_entries {R = name_cmp} (es ++ fin.entries book)) ≤ length es + fin.len book
few_from [] book = omega (arith, ap (λ (b : Accounts). fin.len b) (again book))
few_from (e ∷ es) book = omega (arith, grown (fin.contains_key (fin.from_entries {R = name_cmp} (es ++ fin.entries book)) e.0) _ _ _ (len-insert nat_list_cmp_total (fin.from_entries (es ++ fin.entries book)) e.0 e.1) (few_from es book))

-- records that are replaced make no accounts
kept_from : (es : Entries) (book : Accounts) → ((q : List ℕ) → is_some (find q es) ≡ true → fin.contains_key book q ≡ true) → fin.len (fin.from_entries {R = name_cmp} (es ++ fin.entries book)) ≡ fin.len book
kept_from [] book there = ap (λ (b : Accounts). fin.len b) (again book)
kept_from (e ∷ es) book there =
    let rest = fin.from_entries {R = name_cmp} (es ++ fin.entries book) in
    let own = there e.0 (ap (λ b. is_some (cond b (Some e.1) (find e.0 es))) ((eq_by_cmp_equiv nat_list_cmp_total).refl e.0)) in
    let here : fin.contains_key rest e.0 ≡ true = ap is_some (get_behind es book e.0) ∙ either_some (find e.0 es) (fin.get book e.0) own in
    len-insert nat_list_cmp_total rest e.0 e.1 ∙ ap (λ b. cond b (fin.len rest) (fin.len rest + 1)) here ∙ kept_from es book (λ q is. there q (beside (ties q e.0) e.1 (find q es) is))

pub len_taken : (old added changed : Accounts) → AreThere old changed → fin.len (taken_in old added changed) ≤ fin.len old + fin.len added
len_taken old added changed there =
    omega (arith, kept_from (fin.entries changed) (joined old added) (λ q is. there_still old added changed there q (ap is_some (get-entries changed q) ∙ is)), few_from (fin.entries added) old, len-entries added)

-- ---- what an empty book becomes

pub taken_whole : (old none more : Accounts) → old ≡ fin.empty → none ≡ fin.empty → taken_in old more none ≡ more
taken_whole old none more is nothing = same_rows _ _ (λ q.
    get_joined (joined old more) none q ∙ ap (λ o. option_or o (fin.get (joined old more) q)) (ap (λ (b : Accounts). fin.get b q) nothing ∙ get-empty name_cmp q)
    ∙ get_joined old more q ∙ ap (option_or (fin.get more q)) (ap (λ (b : Accounts). fin.get b q) is ∙ get-empty name_cmp q) ∙ or_none (fin.get more q))
  where
    or_none : (o : Option (Option RecordValue)) → option_or o None ≡ o
    or_none None = refl
    or_none (Some x) = refl

pub there_same : (old none : Accounts) → old ≡ none → AreThere old none
there_same old none is q has = subst (λ (b : Accounts). fin.contains_key b q ≡ true) (sym is) has
