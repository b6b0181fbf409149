-- The result of an import's lines, a name at a time.
use Rattle.std.proofs.Common.{Bool, true, false, cond, if◌then◌else◌, is_some, ◌≡◌, ◌⊎◌, inl, inr, ℕ, ◌+◌, refl, List, [], ◌∷◌, ◌++◌, Option, None, Some, unwrap_or, Result, Ok, Err, sym, ap, ◌∙◌}
use Rattle.std.specs.{Cmp.eq_by_cmp_equiv, Cmp.Lexicographic.nat_list_cmp_total, Ordering.eq_by_cmp}
use Rattle.cred_phc.specs.Values.{RecordValue}
use Rattle.cred_book.specs.{Accounts.Accounts, Names.name_cmp}
use Rattle.cred_file.specs.{Cells.AllMarks, Cells.marked, Cells.unmarked, declared.marks.Mark.Mark}
use Rattle.cred_file.proofs.TableLemmas.{same_name}
use Rattle.cred_admin.specs.Import.{HasNone, Tally, entry_of, entry_with, is_costly, nothing_yet, said_of, tally_from, with_account, with_bad, with_change, with_entry, with_existing, with_kept, with_line}
use Rattle.cred_admin.specs.{declared.entry.LineAccount.LineAccount, declared.entry.LineFault.LineFault, declared.entry.Said.Said, declared.import.Existing.Existing, declared.entry.Said.TheVariants.Nothing, declared.entry.Said.TheVariants.Account}
use Rattle.cred_admin.specs.{declared.entry.LineFault.TheVariants.Book, declared.entry.LineFault.TheVariants.Costly, declared.import.Existing.TheVariants.Refused, declared.import.Existing.TheVariants.Kept, declared.import.Existing.TheVariants.Updated}
use Rattle.cred_admin.specs.declared.import.Rules.{Rules}
use Rattle.std.specs.FinMap as map
use Rattle.cred_book.specs.declared.error.BookError.TheVariants as error

-- ---- a name of a map

get_other : (m : Accounts) (key name : List ℕ) (v : Option RecordValue) → (name ≡ key → ⊥) → map.get (map.insert m key v) name ≡ map.get m name
get_other m key name v other = map.get-insert nat_list_cmp_total m key v name ∙ by_tie (eq_by_cmp name_cmp name key) refl
  where
    by_tie : (b : Bool) → eq_by_cmp name_cmp name key ≡ b → cond b (Some v) (map.get m name) ≡ map.get m name
    by_tie true tie = absurd (other (same_name name key tie))
    by_tie false tie = refl

get_here : (m : Accounts) (key : List ℕ) (v : Option RecordValue) → map.get (map.insert m key v) key ≡ Some v
get_here m key v = map.get-insert nat_list_cmp_total m key v key ∙ ap (λ b. cond b (Some v) (map.get m key)) ((eq_by_cmp_equiv nat_list_cmp_total).refl key)

-- a mark that is put is its name's alone
mark_other : (marks : AllMarks) (key name : List ℕ) (m : Mark) → (name ≡ key → ⊥) → marked marks key m name ≡ marks name
mark_other marks key name m other = by_tie (eq_by_cmp name_cmp name key) refl
  where
    by_tie : (b : Bool) → eq_by_cmp name_cmp name key ≡ b → cond b m (marks name) ≡ marks name
    by_tie true tie = absurd (other (same_name name key tie))
    by_tie false tie = refl

mark_here : (marks : AllMarks) (key : List ℕ) (m : Mark) → marked marks key m key ≡ m
mark_here marks key m = ap (λ b. cond b m (marks key)) ((eq_by_cmp_equiv nat_list_cmp_total).refl key)

-- what is there isn't another that isn't
apart : (m : Accounts) (name key : List ℕ) → map.contains_key m name ≡ true → map.contains_key m key ≡ false → name ≡ key → ⊥
apart m name key there absent same = cc (sym there ∙ ap (map.contains_key m) same ∙ absent)

-- ---- what holds through a line

module _ (P : Tally → Type 0) where
  if_holds : (x y : Tally) (b : Bool) → (b ≡ true → P x) → (b ≡ false → P y) → P (if b then x else y)
  if_holds x y true p q = p refl
  if_holds x y false p q = q refl

  pub by_line : (rules : Rules) (book : Accounts) (t : Tally) (n : ℕ) (r : Result Said LineFault) → P t → ((why : LineFault) → P (with_bad t n why))
      → ((e : LineAccount) → entry_with rules r ≡ Some e → P (with_entry rules.existing book t n e)) → P (with_line rules book t n r)
  by_line rules book t n (Ok Nothing) same bad good = same
  by_line rules book t n (Ok (Account e)) same bad good =
      if_holds (with_bad t n Costly) (with_entry rules.existing book t n e) (is_costly rules.most e.stored) (λ costly. bad Costly) (λ cheap. good e (rw cheap refl))
  by_line rules book t n (Err why) same bad good = bad why

  by_existing : (how h : Existing) (book : Accounts) (t : Tally) (n : ℕ) (e : LineAccount) → how ≡ h → ((why : LineFault) → P (with_bad t n why)) → P (with_kept t)
      → (how ≡ Updated → map.contains_key book e.name ≡ true → map.contains_key t.changed e.name ≡ false → P (with_change t e)) → map.contains_key book e.name ≡ true → P (with_existing h t n e)
  by_existing how Refused book t n e is bad kept change there = bad (Book error.Exists)
  by_existing how Kept book t n e is bad kept change there = kept
  by_existing how Updated book t n e is bad kept change there =
      if_holds (with_bad t n (Book error.Exists)) (with_change t e) (map.contains_key t.changed e.name) (λ twice. bad (Book error.Exists)) (change is there)

  pub by_entry : (how : Existing) (book : Accounts) (t : Tally) (n : ℕ) (e : LineAccount) → ((why : LineFault) → P (with_bad t n why)) → P (with_kept t)
      → (how ≡ Updated → map.contains_key book e.name ≡ true → map.contains_key t.changed e.name ≡ false → P (with_change t e))
      → (map.contains_key book e.name ≡ false → map.contains_key t.accounts e.name ≡ false → P (with_account t e)) → P (with_entry how book t n e)
  by_entry how book t n e bad kept change add =
      if_holds (with_existing how t n e) (if map.contains_key t.accounts e.name then with_bad t n (Book error.Exists) else with_account t e) (map.contains_key book e.name) (by_existing how how book t n e refl bad kept change)
      (λ new. if_holds (with_bad t n (Book error.Exists)) (with_account t e) (map.contains_key t.accounts e.name) (λ twice. bad (Book error.Exists)) (add new))

-- and so through all
through : (P : Tally → Type 0) (rules : Rules) (book : Accounts) → ((t : Tally) (n : ℕ) (r : Result Said LineFault) → P t → P (with_line rules book t n r)) → (t : Tally) (n : ℕ) (lines : List (List ℕ)) → P t → P (tally_from rules book t n lines)
unfolding tally_from
through P rules book step t n [] holds = holds
through P rules book step t n (line ∷ lines) holds = through P rules book step (with_line rules book t n (said_of rules.locked line)) (n + 1) lines (step t n (said_of rules.locked line) holds)

-- ---- what stays through a line

absent_at : (m : Accounts) (name : List ℕ) → map.get m name ≡ None → map.contains_key m name ≡ false
absent_at m name none = ap is_some none

-- what a map has at a name stays through a line that puts nothing there
module _ (rules : Rules) (book : Accounts) (name : List ℕ) (at_name : Option (Option RecordValue)) (t : Tally) (n : ℕ) (r : Result Said LineFault) where
  accounts_stay : ((e : LineAccount) → entry_with rules r ≡ Some e → map.contains_key book e.name ≡ false → map.contains_key t.accounts e.name ≡ false → name ≡ e.name → ⊥) → map.get t.accounts name ≡ at_name → map.get (with_line rules book t n r).accounts name ≡ at_name
  accounts_stay other holds = by_line (λ u. map.get u.accounts name ≡ at_name) rules book t n r holds (λ why. holds)
      (λ e says. by_entry (λ u. map.get u.accounts name ≡ at_name) rules.existing book t n e (λ why. holds) holds (λ how there new. holds) (λ new here. get_other t.accounts e.name name e.stored (other e says new here) ∙ holds))

  changed_stay : ((e : LineAccount) → entry_with rules r ≡ Some e → map.contains_key book e.name ≡ true → map.contains_key t.changed e.name ≡ false → name ≡ e.name → ⊥) → map.get t.changed name ≡ at_name → map.get (with_line rules book t n r).changed name ≡ at_name
  changed_stay other holds = by_line (λ u. map.get u.changed name ≡ at_name) rules book t n r holds (λ why. holds)
      (λ e says. by_entry (λ u. map.get u.changed name ≡ at_name) rules.existing book t n e (λ why. holds) holds (λ how there new. get_other t.changed e.name name e.stored (other e says there new) ∙ holds) (λ new here. holds))

  marks_stay : ((e : LineAccount) → entry_with rules r ≡ Some e → name ≡ e.name → ⊥) → (m : Mark) → t.marks name ≡ m → (with_line rules book t n r).marks name ≡ m
  marks_stay other m holds = by_line (λ u. u.marks name ≡ m) rules book t n r holds (λ why. holds)
      (λ e says. by_entry (λ u. u.marks name ≡ m) rules.existing book t n e (λ why. holds) holds (λ how there new. mark_other t.marks e.name name e.mark (other e says) ∙ holds) (λ new here. mark_other t.marks e.name name e.mark (other e says) ∙ holds))

-- what the book has isn't new, and what it hasn't isn't changed
pub there_not_new : (rules : Rules) (book : Accounts) (name : List ℕ) (n : ℕ) (lines : List (List ℕ)) → map.contains_key book name ≡ true → map.get (tally_from rules book nothing_yet n lines).accounts name ≡ None
there_not_new rules book name n lines there = through (λ u. map.get u.accounts name ≡ None) rules book (λ t n r. accounts_stay rules book name None t n r (λ e says new here. apart book name e.name there new)) nothing_yet n lines (map.get-empty name_cmp name)

pub absent_not_changed : (rules : Rules) (book : Accounts) (name : List ℕ) (n : ℕ) (lines : List (List ℕ)) → map.contains_key book name ≡ false → map.get (tally_from rules book nothing_yet n lines).changed name ≡ None
absent_not_changed rules book name n lines absent = through (λ u. map.get u.changed name ≡ None) rules book (λ t n r. changed_stay rules book name None t n r (λ e says there new same. apart book e.name name there absent (sym same))) nothing_yet n lines (map.get-empty name_cmp name)

-- ---- a name that no good line has

pub record IsFree (name : List ℕ) (t : Tally) : Type 0 where
  pub new : map.get t.accounts name ≡ None
  pub changed : map.get t.changed name ≡ None
  pub mark : t.marks name ≡ unmarked

pub free_at_first : (name : List ℕ) → IsFree name nothing_yet
free_at_first name = record {
  new = map.get-empty name_cmp name;
  changed = map.get-empty name_cmp name;
  mark = ap (λ (m : Option Mark). unwrap_or m unmarked) (map.get-empty name_cmp name);
}

free_line : (rules : Rules) (book : Accounts) (name : List ℕ) (t : Tally) (n : ℕ) (r : Result Said LineFault) → ((e : LineAccount) → entry_with rules r ≡ Some e → name ≡ e.name → ⊥) → IsFree name t → IsFree name (with_line rules book t n r)
free_line rules book name t n r other free = record {
  new = accounts_stay rules book name None t n r (λ e says new here. other e says) free.new;
  changed = changed_stay rules book name None t n r (λ e says there new. other e says) free.changed;
  mark = marks_stay rules book name None t n r other unmarked free.mark;
}

pub free_lines : (rules : Rules) (book : Accounts) (name : List ℕ) (t : Tally) (n : ℕ) (lines : List (List ℕ)) → HasNone rules name lines → IsFree name t → IsFree name (tally_from rules book t n lines)
unfolding tally_from
free_lines rules book name t n [] none free = free
free_lines rules book name t n (line ∷ lines) none free =
    free_lines rules book name (with_line rules book t n (said_of rules.locked line)) (n + 1) lines none.1 (free_line rules book name t n (said_of rules.locked line) none.0 free)

-- ---- the first good line of a name

cheap_entry : (rules : Rules) (book : Accounts) (t : Tally) (n : ℕ) (e f : LineAccount) (b : Bool) → (if b then None else Some f) ≡ Some e
    → (if b then with_bad t n Costly else with_entry rules.existing book t n f) ≡ with_entry rules.existing book t n e
cheap_entry rules book t n e f true says = cc
cheap_entry rules book t n e f false says = cc says

line_of_entry : (rules : Rules) (book : Accounts) (t : Tally) (n : ℕ) (r : Result Said LineFault) (e : LineAccount) → entry_with rules r ≡ Some e → with_line rules book t n r ≡ with_entry rules.existing book t n e
line_of_entry rules book t n (Ok Nothing) e says = cc
line_of_entry rules book t n (Ok (Account f)) e says = cheap_entry rules book t n e f (is_costly rules.most f.stored) says
line_of_entry rules book t n (Err why) e says = cc

-- it is new, with its record and its mark; or it is changed, and has these
abbrev pub IsNew : LineAccount → Tally → Type 0
IsNew e t = (map.get t.accounts e.name ≡ Some e.stored) × (t.marks e.name ≡ e.mark)

abbrev pub IsChanged : LineAccount → Tally → Type 0
IsChanged e t = (map.get t.changed e.name ≡ Some e.stored) × (t.marks e.name ≡ e.mark)

new_stays : (rules : Rules) (book : Accounts) (e : LineAccount) → map.contains_key book e.name ≡ false → (t : Tally) (n : ℕ) (r : Result Said LineFault) → IsNew e t → IsNew e (with_line rules book t n r)
new_stays rules book e absent t n r (is, mark) = by_line (IsNew e) rules book t n r (is, mark) (λ why. (is, mark))
    (λ f says. by_entry (IsNew e) rules.existing book t n f (λ why. (is, mark)) (is, mark)
    (λ how there new. (is, mark_other t.marks f.name e.name f.mark (λ same. apart book f.name e.name there absent (sym same)) ∙ mark))
    (λ new here. let other = apart t.accounts e.name f.name (ap is_some is) here in
    (get_other t.accounts f.name e.name f.stored other ∙ is, mark_other t.marks f.name e.name f.mark other ∙ mark)))

changed_stays : (rules : Rules) (book : Accounts) (e : LineAccount) → map.contains_key book e.name ≡ true → (t : Tally) (n : ℕ) (r : Result Said LineFault) → IsChanged e t → IsChanged e (with_line rules book t n r)
changed_stays rules book e there t n r (is, mark) = by_line (IsChanged e) rules book t n r (is, mark) (λ why. (is, mark))
    (λ f says. by_entry (IsChanged e) rules.existing book t n f (λ why. (is, mark)) (is, mark)
    (λ how here new. let other = apart t.changed e.name f.name (ap is_some is) new in
    (get_other t.changed f.name e.name f.stored other ∙ is, mark_other t.marks f.name e.name f.mark other ∙ mark))
    (λ absent here. (is, mark_other t.marks f.name e.name f.mark (apart book e.name f.name there absent) ∙ mark)))

pub first_new : (rules : Rules) (book : Accounts) (e : LineAccount) (line : List ℕ) (rest : List (List ℕ)) (t : Tally) (n : ℕ) (front : List (List ℕ)) → entry_of rules line ≡ Some e → HasNone rules e.name front → map.contains_key book e.name ≡ false → IsFree e.name t
    → IsNew e (tally_from rules book t n (front ++ line ∷ rest))
unfolding tally_from
first_new rules book e line rest t n [] says none absent free =
    through (IsNew e) rules book (new_stays rules book e absent) (with_line rules book t n (said_of rules.locked line)) (n + 1) rest
    (rw (line_of_entry rules book t n (said_of rules.locked line) e says, absent, absent_at t.accounts e.name free.new) (get_here t.accounts e.name e.stored, mark_here t.marks e.name e.mark))
first_new rules book e line rest t n (l ∷ front) says none absent free =
    first_new rules book e line rest (with_line rules book t n (said_of rules.locked l)) (n + 1) front says none.1 absent (free_line rules book e.name t n (said_of rules.locked l) none.0 free)

pub first_changed : (rules : Rules) (book : Accounts) (e : LineAccount) (line : List ℕ) (rest : List (List ℕ)) (t : Tally) (n : ℕ) (front : List (List ℕ)) → entry_of rules line ≡ Some e → HasNone rules e.name front → map.contains_key book e.name ≡ true → rules.existing ≡ Updated → IsFree e.name t
    → IsChanged e (tally_from rules book t n (front ++ line ∷ rest))
unfolding tally_from
first_changed rules book e line rest t n [] says none there how free =
    through (IsChanged e) rules book (changed_stays rules book e there) (with_line rules book t n (said_of rules.locked line)) (n + 1) rest
    (rw (line_of_entry rules book t n (said_of rules.locked line) e says, there, how, absent_at t.changed e.name free.changed) (get_here t.changed e.name e.stored, mark_here t.marks e.name e.mark))
first_changed rules book e line rest t n (l ∷ front) says none there how free =
    first_changed rules book e line rest (with_line rules book t n (said_of rules.locked l)) (n + 1) front says none.1 there how (free_line rules book e.name t n (said_of rules.locked l) none.0 free)

-- its mark, whichever of the two it is
pub first_mark : (rules : Rules) (book : Accounts) (e : LineAccount) (line : List ℕ) (rest : List (List ℕ)) (t : Tally) (n : ℕ) (front : List (List ℕ)) → entry_of rules line ≡ Some e → HasNone rules e.name front → IsFree e.name t
    → (map.contains_key book e.name ≡ false) ⊎ (rules.existing ≡ Updated) → (tally_from rules book t n (front ++ line ∷ rest)).marks e.name ≡ e.mark
first_mark rules book e line rest t n front says none free taken = by_there (map.contains_key book e.name) refl taken
  where
    by_there : (b : Bool) → map.contains_key book e.name ≡ b → (map.contains_key book e.name ≡ false) ⊎ (rules.existing ≡ Updated) → (tally_from rules book t n (front ++ line ∷ rest)).marks e.name ≡ e.mark
    by_there false is taken = (first_new rules book e line rest t n front says none is free).1
    by_there true is (inl absent) = cc (sym is ∙ absent)
    by_there true is (inr how) = (first_changed rules book e line rest t n front says none is how free).1
