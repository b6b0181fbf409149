-- The effect of a line at a locked account.
use Rattle.std.proofs.Common.{◌≡◌, ◌≢◌, ◌⊎◌, inl, inr, ℕ, zero, suc, List, [], ◌∷◌, All, Bool, true, false, cond, Option, Some, None, is_some, unwrap_or, refl, sym, ap, subst, ◌∙◌, arith}
use Rattle.std.proofs.lemmas.Slice.Eq.{bytes_eq-Decides}
use Rattle.std.specs.{Cmp.eq_by_cmp_equiv, Cmp.Lexicographic.nat_list_cmp_total, Str.bytes_eq}
use Rattle.cred_phc.specs.Values.{RecordValue}
use Rattle.cred_book.specs.{Works.name_of, Works.new_record, declared.request.Request.Request}
use Rattle.cred_book.specs.declared.request.Request.TheVariants.{Enrol, Verify, Change as Changes, Upgrade, Remove}
use Rattle.cred_cli.specs.Texts.{reply_line}
use Rattle.cred_file.specs.{Cells.marked, Cells.renewed, declared.marks.Mark.Mark}
use Rattle.cred_admin.specs.{PasswordOperations.reset_at, AccountOperations.disabling_at, AccountOperations.expiry_at, AccountOperations.lacks_room, AccountOperations.locking_at, AccountOperations.renaming_at, Statuses.verdict_line}
use Rattle.cred_admin.specs.Marked.{MarkedBook, expired, locked, shut, tried, tried_at, with_mark, with_record}
use Rattle.cred_admin.specs.declared.account_operation.AccountOperation.TheVariants.{Disable, Delete, Rename, Lock, Unlock, Expire}
use Rattle.cred_admin.specs.declared.verdict.Verdict.TheVariants.{Told}
use Rattle.cred_many.specs.{LineOperations.Entry, Locks.EndsLock, Locks.IsLocked, Locks.IsNo, Locks.IsTryAt, Locks.PutsRecord, Served.book_after, Served.done, Served.login_verdict, Served.record_at, Telling.AreAlikeAt, Telling.names_in, declared.line_operation.LineOperation.LineOperation}
use Rattle.cred_many.specs.declared.line_operation.LineOperation.TheVariants.{Quick, Whole, Login, Reset, Forgive, Later}
use Rattle.cred_many.specs.declared.line_operation.QuickOperation.TheVariants.{Account, Load, Show, DisableShown, Bad, OnAccount, List as Names, ListMarks}
use Rattle.cred_many.proofs.Beside.{done_stays}
use Rattle.std.specs.FinMap as map

abbrev Found : Type 0
Found = Option (Option RecordValue)

decide : (a b : List ℕ) → (a ≡ b) ⊎ (a ≢ b)
decide a b = by_test (bytes_eq a b) refl
  where
    by_test : (t : Bool) → bytes_eq a b ≡ t → (a ≡ b) ⊎ (a ≢ b)
    by_test true is = inl ((bytes_eq-Decides a b).0 is)
    by_test false is = inr (λ same. let found = (bytes_eq-Decides a b).1 same in absurd (cc (found, is)))

some_of : (o : Found) → is_some o ≡ true → (v : Option RecordValue) × (o ≡ Some v)
some_of None is = absurd cc
some_of (Some v) is = (v, refl)

-- the mark that was put at a name
mark_at_key : (marks : List ℕ → Mark) (key : List ℕ) (m : Mark) → marked marks key m key ≡ m
mark_at_key marks key m = ap (λ b. cond b m (marks key)) ((eq_by_cmp_equiv nat_list_cmp_total).refl key)

-- ---- tries

shut_is_no : (r : Request) (now : Option RecordValue) → IsNo (reply_line (shut r now))
shut_is_no (Enrol name pw setting) now = inr (inr (inr refl))
shut_is_no (Verify name pw) None = inr (inr (inl refl))
shut_is_no (Verify name pw) (Some stored) = inl refl
shut_is_no (Changes name pw new setting) None = inr (inr (inl refl))
shut_is_no (Changes name pw new setting) (Some stored) = inr (inl refl)
shut_is_no (Upgrade name pw setting) None = inr (inr (inl refl))
shut_is_no (Upgrade name pw setting) (Some stored) = inr (inl refl)
shut_is_no (Remove name pw) None = inr (inr (inl refl))
shut_is_no (Remove name pw) (Some stored) = inr (inl refl)

shut_login : (name pw : List ℕ) (setting : _) (now : Option RecordValue) → IsNo (verdict_line (login_verdict (Told (shut (Upgrade name pw setting) now))))
shut_login name pw setting None = inr (inr (inl refl))
shut_login name pw setting (Some stored) = inl refl

module _ (book : MarkedBook) (r : Request) (is : IsLocked book (name_of r)) where
  tried_some : (now : Option RecordValue) → tried_at book r (Some now) ≡ (Told (shut r now), book)
  tried_some now = rw is.1 refl

  pub tried_locked : (now : Option RecordValue) × (tried book r ≡ (Told (shut r now), book))
  unfolding tried
  tried_locked = let (now, found) = some_of (map.get book.accounts (name_of r)) is.0 in (now, ap (tried_at book r) found ∙ tried_some now)

module _ (capacity : ℕ) (book : MarkedBook) (name : List ℕ) where
  pub refused_try : (operation : LineOperation) → IsLocked book name → IsTryAt name operation → IsNo (done capacity book operation).0 × ((done capacity book operation).1 ≡ book)
  refused_try (Whole r) is at =
      let (now, told) = tried_locked book r (subst (IsLocked book) at is) in
      rw told (shut_is_no r now, refl)
  refused_try (Login key pw setting) is at =
      let (now, told) = tried_locked book (Upgrade key pw setting) (subst (IsLocked book) at is) in
      rw told (shut_login key pw setting now, refl)
  refused_try _ is at = absurd at

  -- ---- other lines

  pub lock_locks : map.contains_key book.accounts name ≡ true → IsLocked (done capacity book (Quick (OnAccount (Lock name)))).1 name
  lock_locks there =
      let (v, found) = some_of (map.get book.accounts name) there in
      rw found (there, ap (λ (m : Mark). m.locked) (mark_at_key book.marks name (locked (book.marks name))))

module _ (capacity : ℕ) (book : MarkedBook) (name : List ℕ) (is : IsLocked book name) where
  -- the account is still locked, and has the same record
  record Holds (new : MarkedBook) : Type 0 where
    still : IsLocked new name
    same : record_at new name ≡ record_at book name

  holds : Holds book
  holds = record { still = is; same = refl }

  by_alike : (new : MarkedBook) → AreAlikeAt name new book → Holds new
  by_alike new alike = record {
    still = (ap is_some alike.0 ∙ is.0, ap (λ (m : Mark). m.locked) alike.1 ∙ is.1);
    same = ap (λ o. unwrap_or o None) alike.0;
  }

  record_locked : (stored : Option RecordValue) → IsLocked (with_record book name stored) name
  record_locked stored = (
    ap is_some (map.get-insert nat_list_cmp_total book.accounts name stored name ∙ ap (λ b. cond b (Some stored) (map.get book.accounts name)) ((eq_by_cmp_equiv nat_list_cmp_total).refl name)),
    ap (λ (m : Mark). m.locked) (mark_at_key book.marks name (renewed (book.marks name))) ∙ is.1,
  )

  mark_locked : (m : Mark) → m.locked ≡ true → Holds (with_mark book name m)
  mark_locked m stays = record { still = (is.0, ap (λ (k : Mark). k.locked) (mark_at_key book.marks name m) ∙ stays); same = refl }

  disabling_locked : (a : Found) → IsLocked (disabling_at book name a).1 name
  disabling_locked None = is
  disabling_locked (Some None) = is
  disabling_locked (Some (Some stored)) = record_locked None

  locking_holds : (a : Found) → Holds (locking_at book name a).1
  locking_holds None = holds
  locking_holds (Some stored) = mark_locked (locked (book.marks name)) refl

  expiry_holds : (a : Found) → Holds (expiry_at book name a).1
  expiry_holds None = holds
  expiry_holds (Some None) = holds
  expiry_holds (Some (Some stored)) = mark_locked (expired (book.marks name)) is.1

  renaming_holds : (key : List ℕ) (a : Found) (b : Bool) → b ≡ true → Holds (renaming_at book key name a b).1
  renaming_holds key None b taken = holds
  renaming_holds key (Some stored) true taken = holds
  renaming_holds key (Some stored) false taken = absurd cc

  reset_locked : (made : RecordValue) (a : Found) → IsLocked (reset_at book name made a).1 name
  reset_locked made None = is
  reset_locked made (Some None) = record_locked (Some made)
  reset_locked made (Some (Some stored)) = record_locked (Some made)

  -- a change that may lack room
  change_holds : (P : MarkedBook → Type 0) (room : Bool) (line full : List ℕ) (after : MarkedBook) → P book → P after → P (cond {A = List ℕ × MarkedBook} room (full, book) (line, after)).1
  change_holds P true line full after old new = old
  change_holds P false line full after old new = new

  abbrev Kept : LineOperation → Type 0
  Kept operation = IsLocked (done capacity book operation).1 name × ((PutsRecord name operation → ⊥) → record_at (done capacity book operation).1 name ≡ record_at book name)

  kept : (operation : LineOperation) → Holds (done capacity book operation).1 → Kept operation
  kept operation h = (h.still, λ puts. h.same)

  -- of the lines that name the account
  at_account : Holds (done capacity book (Quick (Account name))).1
  at_account = rw is.0 holds

  at_load : (stored : RecordValue) → IsLocked (done capacity book (Quick (Load name stored))).1 name
  at_load stored = rw is.0 (record_locked (Some stored))

  at_try : (operation : LineOperation) → IsTryAt name operation → Holds (done capacity book operation).1
  at_try operation at = subst Holds (sym (refused_try capacity book name operation is at).1) holds

  beside : (operation : LineOperation) → All (λ named. name ≢ named) (names_in operation) → Kept operation
  beside operation ne = kept operation (by_alike (done capacity book operation).1 (done_stays capacity book name operation ne))

  -- a name stands alone in a list
  one_other : (key : List ℕ) → name ≢ key → All (λ named. name ≢ named) (key ∷ [])
  one_other key ne zero d low = ne
  one_other key ne (suc i) d low = absurd (omega (arith, low))

  two_others : (key new : List ℕ) → name ≢ key → name ≢ new → All (λ named. name ≢ named) (key ∷ new ∷ [])
  two_others key new ne other zero d low = ne
  two_others key new ne other (suc zero) d low = other
  two_others key new ne other (suc (suc i)) d low = absurd (omega (arith, low))

  none_named : All (λ named. name ≢ named) []
  none_named i d low = absurd (omega (arith, low))

  -- the one name of a line is the account's, or another's
  of_one : (operation : LineOperation) (key : List ℕ) → names_in operation ≡ key ∷ [] → (name ≡ key → Kept operation) → Kept operation
  of_one operation key names here = elim (decide name key) [
    | inl same ↦ here same
    | inr ne ↦ beside operation (subst (All (λ named. name ≢ named)) (sym names) (one_other key ne))
  ]

  -- a line of one name that puts a record there, or removes it
  put_at : (operation : LineOperation) (key : List ℕ) → names_in operation ≡ key ∷ [] → (name ≡ key → PutsRecord name operation) → (name ≡ key → IsLocked (done capacity book operation).1 name) → Kept operation
  put_at operation key names puts stays = of_one operation key names (λ same. (stays same, λ other. absurd (other (puts same))))

  pub step : (operation : LineOperation) → (EndsLock name operation → ⊥) → Kept operation
  step (Quick (Account key)) ends = of_one (Quick (Account key)) key refl (λ same. subst (λ k. Kept (Quick (Account k))) same (kept (Quick (Account name)) at_account))
  step (Quick (Load key stored)) ends =
      put_at (Quick (Load key stored)) key refl (λ same. same) (λ same. subst (λ k. IsLocked (done capacity book (Quick (Load k stored))).1 name) same (at_load stored))
  step (Quick (Show key)) ends = kept (Quick (Show key)) holds
  step (Quick (DisableShown key)) ends =
      put_at (Quick (DisableShown key)) key refl (λ same. same) (λ same. subst (λ k. IsLocked (done capacity book (Quick (DisableShown k))).1 name) same (disabling_locked (map.get book.accounts name)))
  step (Quick (OnAccount (Disable key))) ends =
      put_at (Quick (OnAccount (Disable key))) key refl (λ same. same) (λ same. subst (λ k. IsLocked (done capacity book (Quick (OnAccount (Disable k)))).1 name) same
      (change_holds (λ b. IsLocked b name) (lacks_room capacity book (Disable name)) _ _ (disabling_at book name (map.get book.accounts name)).1 is (disabling_locked (map.get book.accounts name))))
  step (Quick (OnAccount (Delete key))) ends = of_one (Quick (OnAccount (Delete key))) key refl (λ same. absurd (ends same))
  step (Quick (OnAccount (Rename key new))) ends = elim (decide name new) [
    | inl same ↦ kept (Quick (OnAccount (Rename key new)))
        (change_holds Holds (lacks_room capacity book (Rename key new)) _ _ (renaming_at book key new (map.get book.accounts key) (map.contains_key book.accounts new)).1 holds
        (subst (λ n. Holds (renaming_at book key n (map.get book.accounts key) (map.contains_key book.accounts n)).1) same
        (renaming_holds key (map.get book.accounts key) (map.contains_key book.accounts name) is.0)))
    | inr other ↦ beside (Quick (OnAccount (Rename key new))) (two_others key new (λ same. ends same) other)
  ]
  step (Quick (OnAccount (Lock key))) ends =
      of_one (Quick (OnAccount (Lock key))) key refl (λ same. subst (λ k. Kept (Quick (OnAccount (Lock k)))) same
      (kept (Quick (OnAccount (Lock name))) (change_holds Holds (lacks_room capacity book (Lock name)) _ _ (locking_at book name (map.get book.accounts name)).1 holds (locking_holds (map.get book.accounts name)))))
  step (Quick (OnAccount (Unlock key))) ends = of_one (Quick (OnAccount (Unlock key))) key refl (λ same. absurd (ends same))
  step (Quick (OnAccount (Expire key))) ends =
      of_one (Quick (OnAccount (Expire key))) key refl (λ same. subst (λ k. Kept (Quick (OnAccount (Expire k)))) same
      (kept (Quick (OnAccount (Expire name))) (change_holds Holds (lacks_room capacity book (Expire name)) _ _ (expiry_at book name (map.get book.accounts name)).1 holds (expiry_holds (map.get book.accounts name)))))
  step (Quick (Names from most)) ends = kept (Quick (Names from most)) holds
  step (Quick (ListMarks from most)) ends = kept (Quick (ListMarks from most)) holds
  step (Quick (Bad why)) ends = kept (Quick (Bad why)) holds
  step (Whole r) ends = of_one (Whole r) (name_of r) refl (λ same. kept (Whole r) (at_try (Whole r) same))
  step (Login key pw setting) ends = of_one (Login key pw setting) key refl (λ same. kept (Login key pw setting) (at_try (Login key pw setting) same))
  step (Reset key pw setting) ends =
      put_at (Reset key pw setting) key refl (λ same. same) (λ same. subst (λ k. IsLocked (done capacity book (Reset k pw setting)).1 name) same (reset_locked (new_record setting pw) (map.get book.accounts name)))
  step (Forgive key) ends = kept (Forgive key) holds
  step (Later key seconds) ends = kept (Later key seconds) holds

-- whatever lines come
pub stays_locked : (capacity : ℕ) (book : MarkedBook) (name : List ℕ) (lines : List Entry) → IsLocked book name → All (λ e. EndsLock name e.operation → ⊥) lines → IsLocked (book_after capacity book lines) name
unfolding book_after
stays_locked capacity book name [] is none = is
stays_locked capacity book name (e ∷ es) is none =
    stays_locked capacity (done capacity book e.operation).1 name es (step capacity book name is e.operation (none 0 e (omega arith))).0 (λ i d low. none (suc i) d (omega (arith, low)))
