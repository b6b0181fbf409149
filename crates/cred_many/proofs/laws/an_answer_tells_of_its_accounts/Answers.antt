use Rattle.std.proofs.Common.{◌≡◌, ℕ, List, [], ◌∷◌, ◌++◌, Bool, true, false, nat_lt, codes, Option, Some, None, is_some, refl, ap, ◌∙◌, arith}
use Rattle.cred_phc.specs.Values.{RecordValue}
use Rattle.cred_book.specs.{Works.name_of, Works.new_record, declared.request.Request.Request}
use Rattle.cred_cli.specs.Texts.{reply_line}
use Rattle.cred_file.specs.declared.marks.Mark.{Mark}
use Rattle.cred_admin.specs.{PasswordOperations.reset_step, Marked.MarkedBook, Marked.barred, Marked.tried, Marked.tried_at, Marked.tried_if, Statuses.verdict_line, declared.verdict.Verdict.Verdict}
use Rattle.cred_admin.specs.declared.account_operation.AccountOperation.TheVariants.{Disable, Delete, Rename, Lock, Unlock, Expire}
use Rattle.cred_many.specs.{Names.marked_page, Names.marks_line, Names.names_line, Names.page, Served.disabled_line, Served.done, Served.login_verdict, Served.forgiven_line, Served.shown_line, declared.line_operation.LineOperation.LineOperation}
use Rattle.cred_many.specs.Telling.{AreAlikeAt, AreAlikeFor}
use Rattle.cred_many.specs.declared.line_operation.LineOperation.TheVariants.{Quick, Whole, Login, Reset, Forgive, Later}
use Rattle.cred_many.specs.declared.line_operation.QuickOperation.TheVariants.{Account, Load, Show, DisableShown, Bad, OnAccount, List as Names, ListMarks}
use Rattle.cred_many.proofs.{Beside.done_stays, Listed.marks_told}
use Rattle.std.specs.FinMap as map
use Rattle.cred_book.specs.declared.request.Request.TheVariants as request
use Rattle.cred_many.proofs.laws.an_answer_tells_of_its_accounts.Goals as goal

abbrev Found : Type 0
Found = Option (Option RecordValue)

-- ---- what is told

module _ (capacity : ℕ) (one other : MarkedBook) where
  account_told : (name : List ℕ) (a : Found) (room : Bool) → map.get one.accounts name ≡ a → map.get other.accounts name ≡ a → nat_lt (map.len one.accounts) capacity ≡ room → nat_lt (map.len other.accounts) capacity ≡ room
      → (done capacity one (Quick (Account name))).0 ≡ (done capacity other (Quick (Account name))).0
  account_told name (Some a) room here there x y = rw (here, there) refl
  account_told name None true here there x y = rw (here, there, x, y) refl
  account_told name None false here there x y = rw (here, there, x, y) refl

  load_told : (name : List ℕ) (stored : RecordValue) (a : Found) → map.get one.accounts name ≡ a → map.get other.accounts name ≡ a
      → (done capacity one (Quick (Load name stored))).0 ≡ (done capacity other (Quick (Load name stored))).0
  load_told name stored (Some a) here there = rw (here, there) refl
  load_told name stored None here there = rw (here, there) refl

  disable_told : (name : List ℕ) (a : Found) → map.get one.accounts name ≡ a → map.get other.accounts name ≡ a
      → (done capacity one (Quick (OnAccount (Disable name)))).0 ≡ (done capacity other (Quick (OnAccount (Disable name)))).0
  disable_told name (Some None) here there = rw (here, there) refl
  disable_told name _ here there = rw (here, there) refl

  delete_told : (name : List ℕ) (a : Found) → map.get one.accounts name ≡ a → map.get other.accounts name ≡ a
      → (done capacity one (Quick (OnAccount (Delete name)))).0 ≡ (done capacity other (Quick (OnAccount (Delete name)))).0
  delete_told name None here there = rw (here, there) refl
  delete_told name (Some stored) here there = rw (here, there) refl

  rename_told : (name new : List ℕ) (a b : Found) (room : Bool) → map.get one.accounts name ≡ a → map.get other.accounts name ≡ a → map.get one.accounts new ≡ b → map.get other.accounts new ≡ b
      → nat_lt (map.len one.accounts) capacity ≡ room → nat_lt (map.len other.accounts) capacity ≡ room
      → (done capacity one (Quick (OnAccount (Rename name new)))).0 ≡ (done capacity other (Quick (OnAccount (Rename name new)))).0
  rename_told name new None b room here there new_here new_there x y = rw (here, there) refl
  rename_told name new (Some stored) (Some b) room here there new_here new_there x y = rw (here, there, new_here, new_there) refl
  rename_told name new (Some stored) None true here there new_here new_there x y = rw (here, there, new_here, new_there, x, y) refl
  rename_told name new (Some stored) None false here there new_here new_there x y = rw (here, there, new_here, new_there, x, y) refl

  lock_told : (name : List ℕ) (a : Found) → map.get one.accounts name ≡ a → map.get other.accounts name ≡ a
      → (done capacity one (Quick (OnAccount (Lock name)))).0 ≡ (done capacity other (Quick (OnAccount (Lock name)))).0
  lock_told name None here there = rw (here, there) refl
  lock_told name (Some stored) here there = rw (here, there) refl

  unlock_told : (name : List ℕ) (a : Found) (b : Bool) → map.get one.accounts name ≡ a → map.get other.accounts name ≡ a → (one.marks name).locked ≡ b → (other.marks name).locked ≡ b
      → (done capacity one (Quick (OnAccount (Unlock name)))).0 ≡ (done capacity other (Quick (OnAccount (Unlock name)))).0
  unlock_told name None b here there x y = rw (here, there) refl
  unlock_told name (Some stored) true here there x y = rw (here, there, x, y) refl
  unlock_told name (Some stored) false here there x y = rw (here, there, x, y) refl

  expire_told : (name : List ℕ) (a : Found) → map.get one.accounts name ≡ a → map.get other.accounts name ≡ a
      → (done capacity one (Quick (OnAccount (Expire name)))).0 ≡ (done capacity other (Quick (OnAccount (Expire name)))).0
  expire_told name None here there = rw (here, there) refl
  expire_told name (Some None) here there = rw (here, there) refl
  expire_told name (Some (Some stored)) here there = rw (here, there) refl

  -- a try
  tried_if_told : (r : Request) (now : Option RecordValue) (o : Option Verdict) → (tried_if one r now o).0 ≡ (tried_if other r now o).0
  tried_if_told r now (Some v) = refl
  tried_if_told r now None = refl

  tried_at_told : (r : Request) (a : Found) → one.marks (name_of r) ≡ other.marks (name_of r) → (tried_at one r a).0 ≡ (tried_at other r a).0
  tried_at_told r None marks = refl
  tried_at_told r (Some now) marks = ap (λ m. (tried_if one r now (barred m r now)).0) marks ∙ tried_if_told r now (barred (other.marks (name_of r)) r now)

  tried_told : (r : Request) → AreAlikeAt (name_of r) one other → (tried one r).0 ≡ (tried other r).0
  unfolding tried
  tried_told r (same, marks) = ap (λ a. (tried_at one r a).0) same ∙ tried_at_told r (map.get other.accounts (name_of r)) marks

  reset_told : (name : List ℕ) (made : RecordValue) (a : Found) → map.get one.accounts name ≡ a → map.get other.accounts name ≡ a → (reset_step one name made).0 ≡ (reset_step other name made).0
  reset_told name made (Some None) here there = rw (here, there) refl
  reset_told name made _ here there = rw (here, there) refl

  done_told : (operation : LineOperation) → AreAlikeFor capacity operation one other → (done capacity one operation).0 ≡ (done capacity other operation).0
  done_told (Quick (Account name)) (same, room) = account_told name (map.get other.accounts name) (nat_lt (map.len other.accounts) capacity) (same 0 [] (omega arith)).0 refl room refl
  done_told (Quick (Load name stored)) (same, beside) = load_told name stored (map.get other.accounts name) (same 0 [] (omega arith)).0 refl
  done_told (Quick (Show name)) (same, beside) =
      ap (λ m. shown_line m (map.get one.accounts name)) (same 0 [] (omega arith)).1 ∙ ap (shown_line (other.marks name)) (same 0 [] (omega arith)).0
  done_told (Quick (DisableShown name)) (same, beside) =
      ap (λ m. disabled_line name m (map.get one.accounts name)) (same 0 [] (omega arith)).1 ∙ ap (disabled_line name (other.marks name)) (same 0 [] (omega arith)).0
  done_told (Quick (OnAccount (Disable name))) (same, beside) = disable_told name (map.get other.accounts name) (same 0 [] (omega arith)).0 refl
  done_told (Quick (OnAccount (Delete name))) (same, beside) = delete_told name (map.get other.accounts name) (same 0 [] (omega arith)).0 refl
  done_told (Quick (OnAccount (Rename name new))) (same, room) =
      rename_told name new (map.get other.accounts name) (map.get other.accounts new) (nat_lt (map.len other.accounts) capacity) (same 0 [] (omega arith)).0 refl (same 1 [] (omega arith)).0 refl room refl
  done_told (Quick (OnAccount (Lock name))) (same, beside) = lock_told name (map.get other.accounts name) (same 0 [] (omega arith)).0 refl
  done_told (Quick (OnAccount (Unlock name))) (same, beside) =
      unlock_told name (map.get other.accounts name) (other.marks name).locked (same 0 [] (omega arith)).0 refl (ap (λ (m : Mark). m.locked) (same 0 [] (omega arith)).1) refl
  done_told (Quick (OnAccount (Expire name))) (same, beside) = expire_told name (map.get other.accounts name) (same 0 [] (omega arith)).0 refl
  done_told (Quick (Names from most)) (same, names) = ap (λ keys. names_line (page from most keys)) names
  done_told (Quick (ListMarks from most)) (same, (names, marks)) =
      ap (λ keys. marks_line one.marks (marked_page one.marks from most keys)) names
      ∙ ap (λ text. (codes "marks" ++ text) ++ 10 ∷ []) (marks_told one.marks other.marks from most (map.keys other.accounts) marks)
  done_told (Quick (Bad why)) (same, beside) = refl
  done_told (Whole r) (same, beside) = ap verdict_line (tried_told r (same 0 [] (omega arith)))
  done_told (Login name pw setting) (same, beside) = ap (λ v. verdict_line (login_verdict v)) (tried_told (request.Upgrade name pw setting) (same 0 [] (omega arith)))
  done_told (Reset name pw setting) (same, beside) = ap reply_line (reset_told name (new_record setting pw) (map.get other.accounts name) (same 0 [] (omega arith)).0 refl)
  done_told (Forgive name) (same, beside) = ap (λ a. forgiven_line (is_some a)) (same 0 [] (omega arith)).0
  done_told (Later name seconds) (same, beside) = refl

pub returns : goal.returns
returns c = record { tells = done_told; keeps = λ capacity book operation name. done_stays capacity book name operation }
