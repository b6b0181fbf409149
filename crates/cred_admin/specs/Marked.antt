-- A book with the marks of its accounts, and the result of a try at an account.
use Rattle.std.specs.Prelude.{◌≡◌, ◌⊎◌, ℕ, List, Bool, true, false, if◌then◌else◌, Option, Some, None, Result, OnOk, OnErr}
use Rattle.std.specs.Str.{bytes_eq}
use Rattle.std.specs.FinMap as map
use Rattle.cred_phc.specs.Values.{RecordValue}
use Rattle.cred_book.specs.{Accounts.Accounts, Commits.commit_outcome, Commits.judgement, Works.Task, Works.makes_change, Works.name_of, Works.same, Works.whole, declared.request.Reply.Reply, declared.request.Request.Request}
use Rattle.cred_book.specs.declared.request.Request.TheVariants.{Enrol, Verify, Change, Upgrade, Remove}
use Rattle.cred_book.specs.declared.request.Reply.TheVariants as reply
use Rattle.cred_file.specs.{Cells.mark_at as kept_mark, Cells.marked, Cells.renewed, Cells.unmarked, Changes.taken_in, Kept.Kept, Transactions.changed_marks, declared.marks.Mark.Mark}
use Rattle.cred_admin.specs.declared.verdict.Verdict.{Verdict}
use Rattle.cred_admin.specs.declared.verdict.Verdict.TheVariants.{Told, Expired, Same}

-- the accounts, and the mark of each name
pub record MarkedBook : Type 0 where
  pub accounts : Accounts
  pub marks : List ℕ → Mark

abbrev pub marked_book : Accounts → (List ℕ → Mark) → MarkedBook
marked_book accounts marks = record { accounts = accounts; marks = marks }

-- the marked book of a kept book
abbrev pub kept_book : {S : Type 0} → Kept S → MarkedBook
kept_book k = marked_book k.book (kept_mark k.marks)

-- the mark of an account; a name that isn't there has none
abbrev pub mark_in : MarkedBook → List ℕ → Mark
mark_in book name = if map.contains_key book.accounts name then book.marks name else unmarked

-- ---- records that are put

-- The account has this record, or none. Its password need not be changed any more, and a lock
-- stays.
abbrev pub with_record : MarkedBook → List ℕ → Option RecordValue → MarkedBook
with_record book name stored =
    marked_book (map.insert book.accounts name stored)
    (marked book.marks name (renewed (book.marks name)))

-- a new account has no mark
abbrev pub with_account : MarkedBook → List ℕ → Option RecordValue → MarkedBook
with_account book name stored =
    marked_book (map.insert book.accounts name stored) (marked book.marks name unmarked)

-- the book with another mark at this name
abbrev pub with_mark : MarkedBook → List ℕ → Mark → MarkedBook
with_mark book name m = marked_book book.accounts (marked book.marks name m)

abbrev pub locked : Mark → Mark
locked m = record { locked = true; must_change = m.must_change }

abbrev pub unlocked : Mark → Mark
unlocked m = record { locked = false; must_change = m.must_change }

abbrev pub expired : Mark → Mark
expired m = record { locked = m.locked; must_change = true }

-- ---- tries

-- at a locked account: the reply that a wrong password has there, and no first record is made
abbrev pub shut : Request → Option RecordValue → Reply
shut (Enrol name pw setting) stored = reply.Exists
shut (Verify name pw) None = reply.Absent
shut (Verify name pw) (Some stored) = reply.No
shut (Change name pw new setting) None = reply.Absent
shut (Change name pw new setting) (Some stored) = reply.Wrong
shut (Upgrade name pw setting) None = reply.Absent
shut (Upgrade name pw setting) (Some stored) = reply.Wrong
shut (Remove name pw) None = reply.Absent
shut (Remove name pw) (Some stored) = reply.Wrong

-- the request changes a password to the present one
abbrev pub keeps_password : Request → Bool
keeps_password (Change name pw new setting) = bytes_eq pw new
keeps_password _ = false

-- A right password that must be changed gets this answer, and nothing is done. A change to another
-- password is made.
abbrev pub due : Request → Reply → Option Verdict
due request reply.Yes = Some Expired
due request reply.Kept = Some Expired
due request reply.Upgraded = Some Expired
due request reply.Removed = Some Expired
due request reply.Replaced = if keeps_password request then Some Same else None
due request _ = None

-- the answer that replaces this reply at an account with this mark and this record
abbrev pub barred_by : Mark → Request → Option RecordValue → Reply → Option Verdict
barred_by m request now r =
    if m.locked then Some (Told (shut request now))
    else if m.must_change then due request r
    else None

abbrev pub barred : Mark → Request → Option RecordValue → Option Verdict
barred m request now = barred_by m request now (whole request now).0

-- an operation that makes a change puts a record, and removes the mark that the old one must change
abbrev pub marks_after : MarkedBook → List ℕ → Bool → List ℕ → Mark
marks_after book name changes =
    if changes then marked book.marks name (renewed (book.marks name)) else book.marks

abbrev pub tried_if : MarkedBook → Request → Option RecordValue → Option Verdict
    → Verdict × MarkedBook
tried_if book request now (Some v) = (v, book)
tried_if book request now None = (
  Told (whole request now).0,
  marked_book (map.insert book.accounts (name_of request) (whole request now).1)
      (marks_after book (name_of request) (makes_change (whole request now).0)),
)

abbrev pub tried_at : MarkedBook → Request → Option (Option RecordValue) → Verdict × MarkedBook
tried_at book request None = (Told reply.NoAccount, book)
tried_at book request (Some now) =
    tried_if book request now (barred (book.marks (name_of request)) request now)

-- a whole operation on an account: the specification's `seq`, unless a mark bars it
unfoldable pub tried : MarkedBook → Request → Verdict × MarkedBook
tried book request = tried_at book request (map.get book.accounts (name_of request))

-- ---- commits

abbrev pub is_outdated : Verdict → Bool
is_outdated (Told (reply.Changed now)) = true
is_outdated _ = false

-- the record differs from the copy, and nothing is done
pub record IsOutdated (old new : MarkedBook) (work : Task) (v : Verdict) : Type 0 where
  pub now : Option RecordValue
  pub there : map.get old.accounts (name_of work.0) ≡ Some now
  pub other : same now work.1 ≡ false
  pub told : v ≡ Told (reply.Changed now)
  pub same_book : new ≡ old

-- the whole operation is done as the present marks allow; or the work is outdated
abbrev pub HeedsMarks : MarkedBook → MarkedBook → Task → Verdict → Type 0
HeedsMarks old new work v = ((v, new) ≡ tried old work.0) ⊎ IsOutdated old new work v

-- ---- what a keeper's call does

-- if the call succeeds, the book is this one, and otherwise it stays
abbrev pub Becomes : {A E : Type 0} → Result A E → MarkedBook → MarkedBook → MarkedBook → Type 0
Becomes r old new after = OnOk r (new ≡ after) × OnErr r (new ≡ old)

-- this record, or none, is put at a name, which is added if it isn't there
abbrev pub with_put : MarkedBook → List ℕ → Option RecordValue → MarkedBook
with_put book name stored = marked_book (map.insert book.accounts name stored)
    (marked book.marks name (renewed (mark_in book name)))

-- work is committed whatever the marks are
abbrev pub with_commit : MarkedBook → Task → MarkedBook
with_commit book work = marked_book (commit_outcome book.accounts work).1
    (marks_after book (name_of work.0) (judgement book.accounts work).2)

-- these accounts have these records, or none
abbrev pub with_replaced : MarkedBook → Accounts → MarkedBook
with_replaced book changed = marked_book (taken_in book.accounts map.empty changed)
    (changed_marks renewed book.marks changed)
