-- A line leaves alone the accounts that it doesn't name, with their marks.
use Rattle.std.proofs.Common.{◌≡◌, ◌≢◌, ℕ, List, [], All, Bool, true, false, cond, nat_lt, Option, Some, None, refl, ◌∙◌, arith}
use Rattle.cred_phc.specs.Values.{RecordValue}
use Rattle.cred_book.specs.{Names.name_cmp, Works.makes_change, Works.name_of, Works.new_record, Works.whole, declared.request.Request.Request}
use Rattle.cred_book.proofs.Telling.{get_beside, get_without}
use Rattle.cred_file.specs.{Cells.marked, Cells.unmarked, declared.marks.Mark.Mark}
use Rattle.cred_file.proofs.TableLemmas.{same_name}
use Rattle.std.specs.Ordering.{eq_by_cmp}
use Rattle.cred_admin.specs.{PasswordOperations.reset_at, AccountOperations.deletion_at, AccountOperations.disabling_at, AccountOperations.expiry_at, AccountOperations.locking_at, AccountOperations.renaming_at, AccountOperations.unlocking_at}
use Rattle.cred_admin.specs.Marked.{MarkedBook, barred, marks_after, tried, tried_at, tried_if, with_mark, with_record}
use Rattle.cred_admin.specs.declared.account_operation.AccountOperation.TheVariants.{Disable, Delete, Rename, Lock, Unlock, Expire}
use Rattle.cred_admin.specs.declared.verdict.Verdict.{Verdict}
use Rattle.cred_many.specs.{Served.done, Telling.AreAlikeAt, Telling.names_in, declared.line_operation.LineOperation.LineOperation}
use Rattle.cred_many.specs.declared.line_operation.LineOperation.TheVariants.{Quick, Whole, Login, Reset, Forgive, Later}
use Rattle.cred_many.specs.declared.line_operation.QuickOperation.TheVariants.{Account, Load, Show, DisableShown, Bad, OnAccount, List as Names, ListMarks}
use Rattle.cred_book.specs.declared.request.Request.TheVariants as request
use Rattle.std.specs.FinMap as map

abbrev Found : Type 0
Found = Option (Option RecordValue)

-- the mark of another name
pub mark_beside : (marks : List ℕ → Mark) (key name : List ℕ) (m : Mark) → name ≢ key → marked marks key m name ≡ marks name
mark_beside marks key name m other = by_tie (eq_by_cmp name_cmp name key) refl
  where
    by_tie : (b : Bool) → eq_by_cmp name_cmp name key ≡ b → cond b m (marks name) ≡ marks name
    by_tie true tie = absurd (other (same_name name key tie))
    by_tie false tie = refl

module _ (capacity : ℕ) (book : MarkedBook) (name : List ℕ) where
  abbrev Stays : MarkedBook → Type 0
  Stays new = AreAlikeAt name new book

  record_stays : (key : List ℕ) (stored : Option RecordValue) → name ≢ key → Stays (with_record book key stored)
  record_stays key stored ne = (get_beside name key ne book.accounts stored, mark_beside book.marks key name _ ne)

  mark_stays : (key : List ℕ) (m : Mark) → name ≢ key → Stays (with_mark book key m)
  mark_stays key m ne = (refl, mark_beside book.marks key name m ne)

  account_stays : (key : List ℕ) (b room : Bool) → name ≢ key → map.contains_key book.accounts key ≡ b → nat_lt (map.len book.accounts) capacity ≡ room → Stays (done capacity book (Quick (Account key))).1
  account_stays key true room ne is x = rw is (refl, refl)
  account_stays key false true ne is x = rw (is, x) (get_beside name key ne book.accounts None, mark_beside book.marks key name unmarked ne)
  account_stays key false false ne is x = rw (is, x) (refl, refl)

  load_stays : (key : List ℕ) (stored : RecordValue) (b : Bool) → name ≢ key → map.contains_key book.accounts key ≡ b → Stays (done capacity book (Quick (Load key stored))).1
  load_stays key stored true ne is = rw is (record_stays key (Some stored) ne)
  load_stays key stored false ne is = rw is (refl, refl)

  disabling_stays : (key : List ℕ) (a : Found) → name ≢ key → Stays (disabling_at book key a).1
  disabling_stays key None ne = (refl, refl)
  disabling_stays key (Some None) ne = (refl, refl)
  disabling_stays key (Some (Some stored)) ne = record_stays key None ne

  deletion_stays : (key : List ℕ) (a : Found) → name ≢ key → Stays (deletion_at book key a).1
  deletion_stays key None ne = (refl, refl)
  deletion_stays key (Some stored) ne = (get_without name key ne book.accounts, mark_beside book.marks key name unmarked ne)

  renaming_stays : (key new : List ℕ) (a : Found) (b : Bool) → name ≢ key → name ≢ new → Stays (renaming_at book key new a b).1
  renaming_stays key new None b ne other = (refl, refl)
  renaming_stays key new (Some stored) true ne other = (refl, refl)
  renaming_stays key new (Some stored) false ne other = (
    get_beside name new other (map.remove book.accounts key) stored ∙ get_without name key ne book.accounts,
    mark_beside (marked book.marks new (book.marks key)) key name unmarked ne ∙ mark_beside book.marks new name _ other,
  )

  locking_stays : (key : List ℕ) (a : Found) → name ≢ key → Stays (locking_at book key a).1
  locking_stays key None ne = (refl, refl)
  locking_stays key (Some stored) ne = mark_stays key _ ne

  unlocking_stays : (key : List ℕ) (a : Found) (b : Bool) → name ≢ key → Stays (unlocking_at book key a b).1
  unlocking_stays key None b ne = (refl, refl)
  unlocking_stays key (Some stored) false ne = (refl, refl)
  unlocking_stays key (Some stored) true ne = mark_stays key _ ne

  expiry_stays : (key : List ℕ) (a : Found) → name ≢ key → Stays (expiry_at book key a).1
  expiry_stays key None ne = (refl, refl)
  expiry_stays key (Some None) ne = (refl, refl)
  expiry_stays key (Some (Some stored)) ne = mark_stays key _ ne

  -- a change that may lack room
  change_stays : (room : Bool) (line full : List ℕ) (after : MarkedBook) → Stays after → Stays (cond {A = List ℕ × MarkedBook} room (full, book) (line, after)).1
  change_stays true line full after same = (refl, refl)
  change_stays false line full after same = same

  reset_stays : (key : List ℕ) (made : RecordValue) (a : Found) → name ≢ key → Stays (reset_at book key made a).1
  reset_stays key made None ne = (refl, refl)
  reset_stays key made (Some None) ne = record_stays key (Some made) ne
  reset_stays key made (Some (Some stored)) ne = record_stays key (Some made) ne

  after_stays : (key : List ℕ) (changes : Bool) → name ≢ key → marks_after book key changes name ≡ book.marks name
  after_stays key true ne = mark_beside book.marks key name _ ne
  after_stays key false ne = refl

  tried_if_stays : (r : Request) (now : Option RecordValue) (o : Option Verdict) → name ≢ name_of r → Stays (tried_if book r now o).1
  tried_if_stays r now (Some v) ne = (refl, refl)
  tried_if_stays r now None ne = (get_beside name (name_of r) ne book.accounts (whole r now).1, after_stays (name_of r) (makes_change (whole r now).0) ne)

  tried_at_stays : (r : Request) (a : Found) → name ≢ name_of r → Stays (tried_at book r a).1
  tried_at_stays r None ne = (refl, refl)
  tried_at_stays r (Some now) ne = tried_if_stays r now (barred (book.marks (name_of r)) r now) ne

  tried_stays : (r : Request) → name ≢ name_of r → Stays (tried book r).1
  unfolding tried
  tried_stays r ne = tried_at_stays r (map.get book.accounts (name_of r)) ne

  pub done_stays : (operation : LineOperation) → All (λ named. name ≢ named) (names_in operation) → Stays (done capacity book operation).1
  done_stays (Quick (Account key)) ne = account_stays key _ _ (ne 0 [] (omega arith)) refl refl
  done_stays (Quick (Load key stored)) ne = load_stays key stored _ (ne 0 [] (omega arith)) refl
  done_stays (Quick (Show key)) ne = (refl, refl)
  done_stays (Quick (DisableShown key)) ne = disabling_stays key (map.get book.accounts key) (ne 0 [] (omega arith))
  done_stays (Quick (OnAccount (Disable key))) ne = change_stays _ _ _ _ (disabling_stays key (map.get book.accounts key) (ne 0 [] (omega arith)))
  done_stays (Quick (OnAccount (Delete key))) ne = change_stays _ _ _ _ (deletion_stays key (map.get book.accounts key) (ne 0 [] (omega arith)))
  done_stays (Quick (OnAccount (Rename key new))) ne =
      change_stays _ _ _ _ (renaming_stays key new (map.get book.accounts key) (map.contains_key book.accounts new) (ne 0 [] (omega arith)) (ne 1 [] (omega arith)))
  done_stays (Quick (OnAccount (Lock key))) ne = change_stays _ _ _ _ (locking_stays key (map.get book.accounts key) (ne 0 [] (omega arith)))
  done_stays (Quick (OnAccount (Unlock key))) ne = change_stays _ _ _ _ (unlocking_stays key (map.get book.accounts key) (book.marks key).locked (ne 0 [] (omega arith)))
  done_stays (Quick (OnAccount (Expire key))) ne = change_stays _ _ _ _ (expiry_stays key (map.get book.accounts key) (ne 0 [] (omega arith)))
  done_stays (Quick (Names from most)) ne = (refl, refl)
  done_stays (Quick (ListMarks from most)) ne = (refl, refl)
  done_stays (Quick (Bad why)) ne = (refl, refl)
  done_stays (Whole r) ne = tried_stays r (ne 0 [] (omega arith))
  done_stays (Login key pw setting) ne = tried_stays (request.Upgrade key pw setting) (ne 0 [] (omega arith))
  done_stays (Reset key pw setting) ne = reset_stays key (new_record setting pw) (map.get book.accounts key) (ne 0 [] (omega arith))
  done_stays (Forgive key) ne = (refl, refl)
  done_stays (Later key seconds) ne = (refl, refl)
