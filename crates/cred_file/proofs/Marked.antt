-- The mark of a name by the entries of a tree of marks, and the effect of a write to the tree.
use Rattle.std.proofs.lemmas.Bool.{cond_both}
use Rattle.std.proofs.Common.{◌≡◌, ◌⊎◌, inl, inr, ℕ, List, [], ◌∷◌, Bool, true, false, cond, ◌||◌, T, Option, Some, None, is_some, unwrap_or, refl, sym, ap, subst, ◌∙◌}
use Rattle.std.specs.{Ordering.eq_by_cmp}
use Rattle.std.specs.{Map.lookup, BTreeMap.is_at, Cmp.eq_by_cmp_equiv, Cmp.Lexicographic.nat_list_cmp_total, Cmp.Equal-is}
use Rattle.std.specs.FinMap as fin
use Rattle.std.specs.FinMap.{get-entries}
use Rattle.cred_book.proofs.Registered.{lookup_find}
use Rattle.cred_book.proofs.Rows.{no_some, same_names}
use Rattle.cred_book.specs.Names.{name_cmp}
use Rattle.cred_file.specs.declared.marks.Mark.{Mark}
use Rattle.cred_file.specs.Cells.{Marks, is_marked, mark_at, marked, renewed_with, unmarked}
use Rattle.cred_file.specs.Transactions.{HasRoom, KeepsRoom}

either : (b : Bool) (row o : Option Mark) → unwrap_or (cond b row o) unmarked ≡ cond b (unwrap_or row unmarked) (unwrap_or o unmarked)
either true row o = refl
either false row o = refl

either_there : (b : Bool) (row : Mark) (o : Option Mark) → is_some o ≡ true → is_some (cond b (Some row) o) ≡ true
either_there true row o is = refl
either_there false row o is = is

module _ (es : List (List ℕ × Mark)) (sorted : T (fin.is_sorted name_cmp es)) (marks : Marks) (view : fin.from_sorted es ≡ marks) where
  pub found : (q : List ℕ) → fin.get marks q ≡ lookup (is_at (name_cmp q)) es
  found q = ap (λ (m : Marks). fin.get m q) (sym view) ∙ fin.get-from_sorted name_cmp es q sorted ∙ sym (lookup_find name_cmp es q)

  pub has : (q : List ℕ) → is_some (lookup (is_at (name_cmp q)) es) ≡ fin.contains_key marks q
  has q = sym (ap is_some (found q))

  -- a mark added to these entries, or removed
  pub written : (later : List (List ℕ × Mark)) → T (fin.is_sorted name_cmp later) → (key : List ℕ) (row : Option Mark)
      → ((q : List ℕ) → lookup (is_at (name_cmp q)) later ≡ cond (is_at (name_cmp key) q) row (lookup (is_at (name_cmp q)) es))
      → mark_at (fin.from_sorted later) ≡ marked (mark_at marks) key (unwrap_or row unmarked)
  written later after key row updates =
      let at : (q : List ℕ) → mark_at (fin.from_sorted later) q ≡ marked (mark_at marks) key (unwrap_or row unmarked) q = λ q.
      ap (λ o. unwrap_or o unmarked) (fin.get-from_sorted name_cmp later q after ∙ sym (lookup_find name_cmp later q) ∙ updates q
      ∙ ap (λ b. cond b row (lookup (is_at (name_cmp q)) es)) ((eq_by_cmp_equiv nat_list_cmp_total).symm key q) ∙ ap (cond (eq_by_cmp name_cmp q key) row) (sym (found q)))
      ∙ either (eq_by_cmp name_cmp q key) row (fin.get marks q) in
      λ i q. at q i

  -- one that is put leaves the others their room
  pub still : (later : List (List ℕ × Mark)) → T (fin.is_sorted name_cmp later) → (key : List ℕ) (row : Mark)
      → ((q : List ℕ) → lookup (is_at (name_cmp q)) later ≡ cond (is_at (name_cmp key) q) (Some row) (lookup (is_at (name_cmp q)) es)) → KeepsRoom marks (fin.from_sorted later)
  still later after key row updates q there =
      ap is_some (fin.get-from_sorted name_cmp later q after ∙ sym (lookup_find name_cmp later q) ∙ updates q) ∙ either_there (is_at (name_cmp key) q) row (lookup (is_at (name_cmp q)) es) (has q ∙ there)

-- to put the mark that is there changes nothing
pub marked_same : (marks : List ℕ → Mark) (name : List ℕ) (m : Mark) → marks name ≡ m → marked marks name m ≡ marks
marked_same marks name m is =
    let at : (q : List ℕ) → marked marks name m q ≡ marks q = λ q.
    elim (eq_by_cmp name_cmp q name) as (λ b. eq_by_cmp name_cmp q name ≡ b → cond b m (marks q) ≡ marks q) [
      | true ↦ λ e. sym is ∙ ap marks (sym (same_names q name ((Equal-is (name_cmp q name)).0 e)))
      | false ↦ λ e. refl
    ] refl in
    λ i q. at q i

-- a name that has none
pub none_at : (marks : Marks) (name : List ℕ) → fin.contains_key marks name ≡ false → mark_at marks name ≡ unmarked
none_at marks name absent = ap (λ o. unwrap_or o unmarked) (no_some (fin.get marks name) absent)

pub not_marked : (m : Mark) → is_marked m ≡ false → m ≡ unmarked
not_marked m e = of_parts m.locked m.must_change e
  where
    of_parts : (a b : Bool) → (a || b) ≡ false → ◌≡◌ {A = Mark} (record { locked = a; must_change = b }) unmarked
    of_parts false false e = refl
    of_parts true b e = absurd cc
    of_parts false true e = absurd cc

-- a mark that needs no room, set at such a name
pub unset : (marks : Marks) (name : List ℕ) (m : Mark) → (is_marked m ≡ true → fin.contains_key marks name ≡ true) → fin.contains_key marks name ≡ false → mark_at marks name ≡ m
unset marks name m room absent = none_at marks name absent ∙ sym (not_marked m (bare (is_marked m) room))
  where
    bare : (b : Bool) → (b ≡ true → fin.contains_key marks name ≡ true) → b ≡ false
    bare true room = absurd (let e = sym (room refl) ∙ absent in cc)
    bare false room = refl

-- the entries of the tree are the map's
pub entries_as : (es : List (List ℕ × Mark)) → T (fin.is_sorted name_cmp es) → (marks : Marks) → fin.from_sorted es ≡ marks → es ≡ fin.entries marks
entries_as es sorted marks view = sym (fin.entries-from_sorted name_cmp es sorted) ∙ ap (λ (m : Marks). fin.entries m) view

pub none_from : fin.from_sorted {R = name_cmp} [] ≡ fin.empty {X = Mark}
none_from = fin.empty_of_len _ (fin.len-entries _ ∙ ap Rattle.std.proofs.Common.length (fin.entries-from_sorted name_cmp [] tt))

-- ---- room for the marks of a batch

abbrev pub AreHeld : Marks → Marks → List (List ℕ × Mark) → Type 0
AreHeld marks given rest = (q : List ℕ) → fin.contains_key given q ≡ true → (is_some (fin.find name_cmp q rest) ≡ true) ⊎ (fin.contains_key marks q ≡ true)

pub none_held : (marks given : Marks) → AreHeld marks given (fin.entries given)
none_held marks given q has = inl (ap is_some (sym (get-entries given q)) ∙ has)

tied : (marks : Marks) (key q : List ℕ) → eq_by_cmp name_cmp q key ≡ true → fin.get marks q ≡ fin.get marks key
tied marks key q e = fin.get_tied nat_list_cmp_total marks key q ((Equal-is _).0 (sym ((eq_by_cmp_equiv nat_list_cmp_total).symm q key) ∙ e))

pub one_held : (marks after given : Marks) (rest left : List (List ℕ × Mark)) (k : List ℕ) (m : Mark) → AreHeld marks given rest → rest ≡ (k, m) ∷ left → fin.contains_key after k ≡ true → KeepsRoom marks after → AreHeld after given left
one_held marks after given rest left k m was is held keeps q has = elim (was q has) [
  | inl in_rest ↦
      cond_both (eq_by_cmp name_cmp q k) (Some m) (fin.find name_cmp q left) (λ o. is_some o ≡ true → (is_some (fin.find name_cmp q left) ≡ true) ⊎ (fin.contains_key after q ≡ true))
      (λ tie some. inr (ap is_some (tied after k q tie) ∙ held)) (λ other some. inl some) (ap (λ es. is_some (fin.find name_cmp q es)) (sym is) ∙ in_rest)
  | inr there ↦ inr (keeps q there)
]

pub all_held : (marks given : Marks) (rest : List (List ℕ × Mark)) → AreHeld marks given rest → rest ≡ [] → HasRoom marks given
all_held marks given rest was none q has = elim (was q has) [ inl in_rest ↦ absurd (let e = ap (λ es. is_some (fin.find name_cmp q es)) (sym none) ∙ in_rest in cc) | inr there ↦ there ]

-- a given mark has room, beside the one that was there
by_key : (b : Bool) → (b ≡ false → ⊥) → b ≡ true
by_key true never = refl
by_key false never = absurd (never refl)

pub room_given : (marks given : Marks) (k : List ℕ) → HasRoom marks given → is_marked (mark_at given k) ≡ true → fin.contains_key marks k ≡ true
room_given marks given k room is = room k (by_key (fin.contains_key given k) (λ absent. let e = sym (ap is_marked (none_at given k absent)) ∙ is in cc))

pub room_changed : (marks given : Marks) (k : List ℕ) → HasRoom marks given → is_marked (renewed_with (mark_at given k) (mark_at marks k)) ≡ true → fin.contains_key marks k ≡ true
room_changed marks given k room is = by_key (fin.contains_key marks k) (λ absent.
    let alone = ap (λ m. is_marked (renewed_with (mark_at given k) m)) (sym (none_at marks k absent)) ∙ is in
    let there = room_given marks given k room (of_none (mark_at given k).locked (mark_at given k).must_change alone) in
    let e = sym there ∙ absent in cc)
  where
    of_none : (a b : Bool) → ((a || false) || b) ≡ true → (a || b) ≡ true
    of_none true b e = refl
    of_none false b e = e
