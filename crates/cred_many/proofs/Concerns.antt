-- A line that doesn't name an account has the same effect whatever mark the account has.
use Rattle.std.proofs.Common.{◌≡◌, ◌≢◌, ℕ, suc, List, [], ◌∷◌, ◌++◌, All, Bool, true, false, cond, if◌then◌else◌, not, ◌&&◌, nat_lt, Option, Some, None, refl, sym, ap, ◌∙◌, arith}
use Rattle.cred_phc.specs.Values.{RecordValue}
use Rattle.cred_book.specs.{Accounts.Accounts, Names.name_cmp, Works.makes_change, Works.name_of, Works.new_record, Works.whole, declared.request.Reply.Reply, declared.request.Request.Request}
use Rattle.cred_cli.specs.{History.Done, History.Refused, Texts.line_of, Texts.reply_line}
use Rattle.cred_file.specs.{Cells.marked, Cells.renewed, Cells.unmarked, declared.marks.Mark.Mark}
use Rattle.cred_file.proofs.TableLemmas.{same_name}
use Rattle.std.specs.Ordering.{eq_by_cmp}
use Rattle.cred_admin.specs.{PasswordOperations.reset_at, AccountOperations.deletion_at, AccountOperations.disabling_at, AccountOperations.account_reply_line, AccountOperations.expiry_at, AccountOperations.is_renamed, AccountOperations.locking_at, AccountOperations.renaming_at, AccountOperations.unlocking_at, Statuses.verdict_line}
use Rattle.cred_admin.specs.Marked.{MarkedBook, barred, expired, locked, marked_book, marks_after, tried, tried_at, tried_if, unlocked, with_mark, with_record}
use Rattle.cred_admin.specs.declared.account_operation.AccountOperation.TheVariants.{Disable, Delete, Rename, Lock, Unlock, Expire}
use Rattle.cred_admin.specs.declared.account_reply.AccountReply.{AccountReply}
use Rattle.cred_admin.specs.declared.verdict.Verdict.{Verdict}
use Rattle.cred_many.specs.{LineOperations.Entry, Locks.IsApart, Locks.ListsMarks, Served.answers, Served.book_after, Served.disabled_line, Served.done, Served.login_verdict, Served.shown_line, Telling.names_in, declared.line_operation.LineOperation.LineOperation}
use Rattle.cred_many.specs.declared.line_operation.LineOperation.TheVariants.{Quick, Whole, Login, Reset, Forgive, Later}
use Rattle.cred_many.specs.declared.line_operation.QuickOperation.TheVariants.{Account, Load, Show, DisableShown, Bad, OnAccount, List as Names, ListMarks}
use Rattle.cred_many.proofs.Beside.{mark_beside}
use Rattle.cred_book.specs.declared.error.BookError.TheVariants as error
use Rattle.cred_book.specs.declared.request.Request.TheVariants as request
use Rattle.cred_cli.specs.declared.refusal.Refusal.TheVariants as refusal
use Rattle.cred_admin.specs.declared.account_reply.AccountReply.TheVariants as reply
use Rattle.cred_book.specs.declared.request.Reply.TheVariants as replied
use Rattle.cred_admin.specs.declared.verdict.Verdict.TheVariants.{Told}
use Rattle.std.specs.FinMap as map

abbrev Found : Type 0
Found = Option (Option RecordValue)

-- two marks of different names, in either order
module _ (marks : List ℕ → Mark) (name key : List ℕ) (m k : Mark) (ne : name ≢ key) where
  pub commute : marked (marked marks name m) key k ≡ marked (marked marks key k) name m
  commute =
      let at : (q : List ℕ) → marked (marked marks name m) key k q ≡ marked (marked marks key k) name m q = λ q. by_ties q (eq_by_cmp name_cmp q key) (eq_by_cmp name_cmp q name) refl refl in
      λ i q. at q i
    where
      by_ties : (q : List ℕ) (a b : Bool) → eq_by_cmp name_cmp q key ≡ a → eq_by_cmp name_cmp q name ≡ b → cond a k (cond b m (marks q)) ≡ cond b m (cond a k (marks q))
      by_ties q true true here there = absurd (ne (sym (same_name q name there) ∙ same_name q key here))
      by_ties q true false here there = refl
      by_ties q false true here there = refl
      by_ties q false false here there = refl

module _ (capacity : ℕ) (book : MarkedBook) (name : List ℕ) (m : Mark) where
  abbrev other : MarkedBook
  other = with_mark book name m

  -- the results are the same but for the mark
  abbrev Same : {A : Type 0} → A × MarkedBook → A × MarkedBook → Type 0
  Same x y = x ≡ (y.0, with_mark y.1 name m)

  module _ (key : List ℕ) (ne : name ≢ key) where
    here : other.marks key ≡ book.marks key
    here = mark_beside book.marks name key m (λ same. ne (sym same))

    as_mark : (k : Mark) → with_mark other key k ≡ with_mark (with_mark book key k) name m
    as_mark k = ap (marked_book book.accounts) (commute book.marks name key m k ne)

    as_marks : (accounts : Accounts) (f : Mark → Mark) → marked_book accounts (marked other.marks key (f (other.marks key))) ≡ with_mark (marked_book accounts (marked book.marks key (f (book.marks key)))) name m
    as_marks accounts f = ap (λ k. marked_book accounts (marked other.marks key (f k))) here ∙ ap (marked_book accounts) (commute book.marks name key m (f (book.marks key)) ne)

    as_record : (stored : Option RecordValue) → with_record other key stored ≡ with_mark (with_record book key stored) name m
    as_record stored = as_marks (map.insert book.accounts key stored) renewed

    as_plain : (accounts : Accounts) → marked_book accounts (marked other.marks key unmarked) ≡ with_mark (marked_book accounts (marked book.marks key unmarked)) name m
    as_plain accounts = ap (marked_book accounts) (commute book.marks name key m unmarked ne)

    account_same : (b room : Bool) → map.contains_key book.accounts key ≡ b → nat_lt (map.len book.accounts) capacity ≡ room → Same (done capacity other (Quick (Account key))) (done capacity book (Quick (Account key)))
    account_same true room is x = rw is refl
    account_same false true is x = rw (is, x) (ap (λ b. (line_of Done, b)) (as_plain (map.insert book.accounts key None)))
    account_same false false is x = rw (is, x) refl

    load_same : (stored : RecordValue) (b : Bool) → map.contains_key book.accounts key ≡ b → Same (done capacity other (Quick (Load key stored))) (done capacity book (Quick (Load key stored)))
    load_same stored true is = rw is (ap (λ b. (line_of Done, b)) (as_record (Some stored)))
    load_same stored false is = rw is refl

    disabling_same : (a : Found) → Same (disabling_at other key a) (disabling_at book key a)
    disabling_same None = refl
    disabling_same (Some None) = refl
    disabling_same (Some (Some stored)) = ap (λ b. (reply.Disabled, b)) (as_record None)

    deletion_same : (a : Found) → Same (deletion_at other key a) (deletion_at book key a)
    deletion_same None = refl
    deletion_same (Some stored) = ap (λ b. (reply.Deleted, b)) (as_plain (map.remove book.accounts key))

    locking_same : (a : Found) → Same (locking_at other key a) (locking_at book key a)
    locking_same None = refl
    locking_same (Some stored) = ap (λ b. (reply.Locked, b)) (as_marks book.accounts locked)

    unlocking_same : (a : Found) (b : Bool) → Same (unlocking_at other key a b) (unlocking_at book key a b)
    unlocking_same None b = refl
    unlocking_same (Some stored) false = refl
    unlocking_same (Some stored) true = ap (λ b. (reply.Unlocked, b)) (as_marks book.accounts unlocked)

    expiry_same : (a : Found) → Same (expiry_at other key a) (expiry_at book key a)
    expiry_same None = refl
    expiry_same (Some None) = refl
    expiry_same (Some (Some stored)) = ap (λ b. (reply.Expired, b)) (as_marks book.accounts expired)

    reset_same : (made : RecordValue) (a : Found) → Same (reset_at other key made a) (reset_at book key made a)
    reset_same made None = refl
    reset_same made (Some None) = ap (λ b. (replied.Enrolled, b)) (as_record (Some made))
    reset_same made (Some (Some stored)) = ap (λ b. (replied.Replaced, b)) (as_record (Some made))

  renaming_same : (key new : List ℕ) (a : Found) (b : Bool) → name ≢ key → name ≢ new → Same (renaming_at other key new a b) (renaming_at book key new a b)
  renaming_same key new None b ne too = refl
  renaming_same key new (Some stored) true ne too = refl
  renaming_same key new (Some stored) false ne too =
      ap (λ marks. (reply.Renamed, marked_book (map.insert (map.remove book.accounts key) new stored) marks))
      (ap (λ k. marked (marked other.marks new k) key unmarked) (here key ne)
      ∙ ap (λ marks. marked marks key unmarked) (commute book.marks name new m (book.marks key) too)
      ∙ commute (marked book.marks new (book.marks key)) name key m unmarked ne)

  -- tries
  after_same : (key : List ℕ) (changes : Bool) → name ≢ key → marks_after other key changes ≡ marked (marks_after book key changes) name m
  after_same key true ne = ap (λ k. marked other.marks key (renewed k)) (here key ne) ∙ commute book.marks name key m (renewed (book.marks key)) ne
  after_same key false ne = refl

  tried_if_same : (r : Request) (now : Option RecordValue) (o : Option Verdict) → name ≢ name_of r → Same (tried_if other r now o) (tried_if book r now o)
  tried_if_same r now (Some v) ne = refl
  tried_if_same r now None ne = ap (λ marks. (Told (whole r now).0, marked_book (map.insert book.accounts (name_of r) (whole r now).1) marks)) (after_same (name_of r) (makes_change (whole r now).0) ne)

  tried_at_same : (r : Request) (a : Found) → name ≢ name_of r → Same (tried_at other r a) (tried_at book r a)
  tried_at_same r None ne = refl
  tried_at_same r (Some now) ne = ap (λ k. tried_if other r now (barred k r now)) (here (name_of r) ne) ∙ tried_if_same r now (barred (book.marks (name_of r)) r now) ne

  tried_same : (r : Request) → name ≢ name_of r → Same (tried other r) (tried book r)
  unfolding tried
  tried_same r ne = tried_at_same r (map.get book.accounts (name_of r)) ne

  -- changes of accounts
  abbrev after_operation : MarkedBook → AccountReply × MarkedBook → List ℕ × MarkedBook
  after_operation b e = if is_renamed e.0 && not (nat_lt (map.len book.accounts) capacity) then (line_of (Refused (refusal.Book error.Full)), b) else (account_reply_line e.0, e.1)

  told_same : (x y : AccountReply × MarkedBook) → Same x y → Same (after_operation other x) (after_operation book y)
  told_same x y same = ap (after_operation other) same ∙ by_room (is_renamed y.0 && not (nat_lt (map.len book.accounts) capacity))
    where
      by_room : (b : Bool) → ◌≡◌ {A = List ℕ × MarkedBook} (cond b (line_of (Refused (refusal.Book error.Full)), other) (account_reply_line y.0, with_mark y.1 name m))
          ((cond {A = List ℕ × MarkedBook} b (line_of (Refused (refusal.Book error.Full)), book) (account_reply_line y.0, y.1)).0, with_mark (cond {A = List ℕ × MarkedBook} b (line_of (Refused (refusal.Book error.Full)), book) (account_reply_line y.0, y.1)).1 name m)
      by_room true = refl
      by_room false = refl

  pub done_same : (operation : LineOperation) → All (λ named. name ≢ named) (names_in operation) → (ListsMarks operation → ⊥) → Same (done capacity other operation) (done capacity book operation)
  done_same (Quick (Account key)) ne plain = account_same key (ne 0 [] (omega arith)) _ _ refl refl
  done_same (Quick (Load key stored)) ne plain = load_same key (ne 0 [] (omega arith)) stored _ refl
  done_same (Quick (Show key)) ne plain = ap (λ k. (shown_line k (map.get book.accounts key), other)) (here key (ne 0 [] (omega arith)))
  done_same (Quick (DisableShown key)) ne plain =
      ap (λ k. (disabled_line key k (map.get book.accounts key), (disabling_at other key (map.get book.accounts key)).1)) (here key (ne 0 [] (omega arith)))
      ∙ ap (λ (e : AccountReply × MarkedBook). (disabled_line key (book.marks key) (map.get book.accounts key), e.1)) (disabling_same key (ne 0 [] (omega arith)) (map.get book.accounts key))
  done_same (Quick (OnAccount (Disable key))) ne plain = told_same _ _ (disabling_same key (ne 0 [] (omega arith)) (map.get book.accounts key))
  done_same (Quick (OnAccount (Delete key))) ne plain = told_same _ _ (deletion_same key (ne 0 [] (omega arith)) (map.get book.accounts key))
  done_same (Quick (OnAccount (Rename key new))) ne plain = told_same _ _ (renaming_same key new (map.get book.accounts key) (map.contains_key book.accounts new) (ne 0 [] (omega arith)) (ne 1 [] (omega arith)))
  done_same (Quick (OnAccount (Lock key))) ne plain = told_same _ _ (locking_same key (ne 0 [] (omega arith)) (map.get book.accounts key))
  done_same (Quick (OnAccount (Unlock key))) ne plain =
      told_same _ _ (ap (λ (k : Mark). unlocking_at other key (map.get book.accounts key) k.locked) (here key (ne 0 [] (omega arith))) ∙ unlocking_same key (ne 0 [] (omega arith)) (map.get book.accounts key) (book.marks key).locked)
  done_same (Quick (OnAccount (Expire key))) ne plain = told_same _ _ (expiry_same key (ne 0 [] (omega arith)) (map.get book.accounts key))
  done_same (Quick (Names from most)) ne plain = refl
  done_same (Quick (ListMarks from most)) ne plain = absurd (plain tt)
  done_same (Quick (Bad why)) ne plain = refl
  done_same (Whole r) ne plain = ap (λ (o : Verdict × MarkedBook). (verdict_line o.0, o.1)) (tried_same r (ne 0 [] (omega arith)))
  done_same (Login key pw setting) ne plain = ap (λ (o : Verdict × MarkedBook). (verdict_line (login_verdict o.0), o.1)) (tried_same (request.Upgrade key pw setting) (ne 0 [] (omega arith)))
  done_same (Reset key pw setting) ne plain = ap (λ (o : Reply × MarkedBook). (reply_line o.0, o.1)) (reset_same key (ne 0 [] (omega arith)) (new_record setting pw) (map.get book.accounts key))
  done_same (Forgive key) ne plain = refl
  done_same (Later key seconds) ne plain = refl

-- lines one after another
pub book_same : (capacity : ℕ) (book : MarkedBook) (name : List ℕ) (m : Mark) (lines : List Entry) → All (λ e. IsApart name e.operation) lines
    → book_after capacity (with_mark book name m) lines ≡ with_mark (book_after capacity book lines) name m
unfolding book_after
book_same capacity book name m [] ne = refl
book_same capacity book name m (e ∷ es) ne =
    ap (λ (o : List ℕ × MarkedBook). book_after capacity o.1 es) (done_same capacity book name m e.operation (ne 0 e (omega arith)).0 (ne 0 e (omega arith)).1)
    ∙ book_same capacity (done capacity book e.operation).1 name m es (λ i d low. ne (suc i) d (omega (arith, low)))

pub answers_same : (capacity : ℕ) (book : MarkedBook) (name : List ℕ) (m : Mark) (lines : List Entry) → All (λ e. IsApart name e.operation) lines
    → answers capacity (with_mark book name m) lines ≡ answers capacity book lines
unfolding answers
answers_same capacity book name m [] ne = refl
answers_same capacity book name m (e ∷ es) ne =
    ap (λ (o : List ℕ × MarkedBook). (e.tag ++ 32 ∷ o.0) ++ answers capacity o.1 es) (done_same capacity book name m e.operation (ne 0 e (omega arith)).0 (ne 0 e (omega arith)).1)
    ∙ ap (λ t. (e.tag ++ 32 ∷ (done capacity book e.operation).0) ++ t) (answers_same capacity (done capacity book e.operation).1 name m es (λ i d low. ne (suc i) d (omega (arith, low))))
