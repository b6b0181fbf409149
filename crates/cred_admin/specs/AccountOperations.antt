-- The effect of the operations that change an account without its password.
use Rattle.std.specs.Io.KnownBytes.{Appends, Keeps}
use Rattle.std.specs.Prelude.{◌≡◌, ◌⊎◌, ℕ, Bool, true, false, ◌&&◌, not, List, codes, nat_lt, Option, Some, None, Result, Ok, Err, IfErr}
use Rattle.cred_phc.specs.Values.{RecordValue}
use Rattle.cred_book.specs.declared.error.BookError.{BookError}
use Rattle.cred_file.specs.Cells.{marked, unmarked}
use Rattle.cred_admin.specs.{Listing.Tells, Listing.passwd_line, Statuses.fault_of_book, declared.account_reply.AccountReply.AccountReply, declared.account_operation.AccountOperation.AccountOperation}
use Rattle.cred_admin.specs.declared.account_operation.AccountOperation.TheVariants.{Disable, Delete, Rename, Lock, Unlock, Expire}
use Rattle.cred_admin.specs.{Marked.MarkedBook, Marked.expired, Marked.locked, Marked.marked_book, Marked.unlocked, Marked.with_mark, Marked.with_record, declared.fault.Fault.Fault, declared.status.Status.Status}
use Rattle.cred_admin.specs.declared.status.Status.TheVariants.{Done, No}
use Rattle.cred_cli.specs.{Outcome.FrontWritten, Watched.Writing}
use Rattle.std.specs.FinMap as map
use Rattle.cred_book.specs.declared.error.BookError.TheVariants as error
use Rattle.cred_admin.specs.declared.account_reply.AccountReply.TheVariants as reply
use Rattle.cred_admin.specs.declared.fault.Fault.TheVariants as fault

-- ---- what is answered

-- a word with the line end
abbrev pub account_reply_line : AccountReply → List ℕ
account_reply_line reply.Disabled = codes "disabled\n"
account_reply_line reply.Deleted = codes "deleted\n"
account_reply_line reply.Renamed = codes "renamed\n"
account_reply_line reply.Locked = codes "locked\n"
account_reply_line reply.Unlocked = codes "unlocked\n"
account_reply_line reply.Expired = codes "expired\n"
account_reply_line reply.Absent = codes "absent\n"
account_reply_line reply.NotLocked = codes "none\n"
account_reply_line reply.Exists = codes "exists\n"
account_reply_line reply.NoAccount = codes "noaccount\n"

abbrev pub account_reply_status : AccountReply → Status
account_reply_status reply.Disabled = Done
account_reply_status reply.Deleted = Done
account_reply_status reply.Renamed = Done
account_reply_status reply.Locked = Done
account_reply_status reply.Unlocked = Done
account_reply_status reply.Expired = Done
account_reply_status reply.Absent = No None
account_reply_status reply.NotLocked = No None
account_reply_status reply.Exists = No None
account_reply_status reply.NoAccount = No None

abbrev pub told : AccountReply → List ℕ × Status
told r = (account_reply_line r, account_reply_status r)

-- ---- what is done

-- the record is removed, and the name stays
abbrev pub disabling_at : MarkedBook → List ℕ → Option (Option RecordValue)
    → AccountReply × MarkedBook
disabling_at book name None = (reply.NoAccount, book)
disabling_at book name (Some None) = (reply.Absent, book)
disabling_at book name (Some (Some there)) = (reply.Disabled, with_record book name None)

abbrev pub disabling : MarkedBook → List ℕ → AccountReply × MarkedBook
disabling book name = disabling_at book name (map.get book.accounts name)

-- the name is removed, with its record and its mark
abbrev pub deletion_at : MarkedBook → List ℕ → Option (Option RecordValue)
    → AccountReply × MarkedBook
deletion_at book name None = (reply.NoAccount, book)
deletion_at book name (Some stored) =
    (reply.Deleted, marked_book (map.remove book.accounts name) (marked book.marks name unmarked))

abbrev pub deletion : MarkedBook → List ℕ → AccountReply × MarkedBook
deletion book name = deletion_at book name (map.get book.accounts name)

-- the record and the mark go to another name, which isn't there yet
abbrev pub renaming_at : MarkedBook → List ℕ → List ℕ → Option (Option RecordValue) → Bool
    → AccountReply × MarkedBook
renaming_at book name other None is_there = (reply.NoAccount, book)
renaming_at book name other (Some stored) true = (reply.Exists, book)
renaming_at book name other (Some stored) false = (
  reply.Renamed,
  marked_book (map.insert (map.remove book.accounts name) other stored)
      (marked (marked book.marks other (book.marks name)) name unmarked),
)

abbrev pub renaming : MarkedBook → List ℕ → List ℕ → AccountReply × MarkedBook
renaming book name other =
    renaming_at book name other (map.get book.accounts name) (map.contains_key book.accounts other)

-- each password of the account is wrong from now on
abbrev pub locking_at : MarkedBook → List ℕ → Option (Option RecordValue)
    → AccountReply × MarkedBook
locking_at book name None = (reply.NoAccount, book)
locking_at book name (Some stored) = (reply.Locked, with_mark book name (locked (book.marks name)))

-- the account's password is right again
abbrev pub unlocking_at : MarkedBook → List ℕ → Option (Option RecordValue) → Bool
    → AccountReply × MarkedBook
unlocking_at book name None is_locked = (reply.NoAccount, book)
unlocking_at book name (Some stored) false = (reply.NotLocked, book)
unlocking_at book name (Some stored) true =
    (reply.Unlocked, with_mark book name (unlocked (book.marks name)))

-- the present password must be changed
abbrev pub expiry_at : MarkedBook → List ℕ → Option (Option RecordValue) → AccountReply × MarkedBook
expiry_at book name None = (reply.NoAccount, book)
expiry_at book name (Some None) = (reply.Absent, book)
expiry_at book name (Some (Some there)) =
    (reply.Expired, with_mark book name (expired (book.marks name)))

abbrev pub operated : MarkedBook → AccountOperation → AccountReply × MarkedBook
operated book (Disable name) = disabling book name
operated book (Delete name) = deletion book name
operated book (Rename name other) = renaming book name other
operated book (Lock name) = locking_at book name (map.get book.accounts name)
operated book (Unlock name) =
    unlocking_at book name (map.get book.accounts name) (book.marks name).locked
operated book (Expire name) = expiry_at book name (map.get book.accounts name)

abbrev pub is_renamed : AccountReply → Bool
is_renamed reply.Renamed = true
is_renamed _ = false

-- a renaming needs room for one more name, which the book lacks
abbrev pub lacks_room : ℕ → MarkedBook → AccountOperation → Bool
lacks_room capacity book operation =
    is_renamed (operated book operation).0 && not (nat_lt (map.len book.accounts) capacity)

-- the effect of a keeper's call; memory runs out only if the change could have been made
abbrev pub OperatesWithin : ℕ → MarkedBook → MarkedBook → AccountOperation
    → Result AccountReply BookError → Type 0
OperatesWithin capacity old new operation (Ok r) =
    (lacks_room capacity old operation ≡ false) × ((r, new) ≡ operated old operation)
OperatesWithin capacity old new operation (Err error.Full) =
    (lacks_room capacity old operation ≡ true) × (new ≡ old)
OperatesWithin capacity old new operation (Err error.Memory) =
    (account_reply_status (operated old operation).0 ≡ Done)
    × (lacks_room capacity old operation ≡ false) × (new ≡ old)
OperatesWithin capacity old new operation (Err _) = ⊥

-- ---- what comes of it

-- the change is made, and answered or not; or it is not made, and nothing is written
abbrev pub Operates : ℕ → MarkedBook → MarkedBook → AccountOperation → Writing
    → Result Status Fault → Type 0
Operates capacity old new operation w ended = ((r : AccountReply)
    × OperatesWithin capacity old new operation (Ok r)
    × Tells (told r) w ended × IfErr ended (λ e. e ≡ fault.Write))
    ⊎ ((e : BookError) × OperatesWithin capacity old new operation (Err e)
    × (ended ≡ Err (fault_of_book e)) × Keeps w.before w.now)

-- The line of the account is written, and then its record is removed. A fault leaves the account as
-- it is. Without a record the answer says so.
abbrev pub DisablesShown : MarkedBook → MarkedBook → List ℕ → Option (Option RecordValue) → Writing
    → Result Status Fault → Type 0
DisablesShown old new name None w r = (new ≡ old) × Tells (told reply.NoAccount) w r
DisablesShown old new name (Some None) w r = (new ≡ old) × Tells (told reply.Absent) w r
DisablesShown old new name (Some (Some v)) w (Ok status) = (new ≡ with_record old name None)
    × Appends w.before w.now (passwd_line (old.marks name) (name, Some v)) × (status ≡ Done)
DisablesShown old new name (Some (Some v)) w (Err fault.Write) = (new ≡ old)
    × (w.failed ≡ true) × FrontWritten w.before w.now (passwd_line (old.marks name) (name, Some v))
DisablesShown old new name (Some (Some v)) w (Err fault.Memory) = (new ≡ old)
    × (Keeps w.before w.now ⊎ Appends w.before w.now (passwd_line (old.marks name) (name, Some v)))
DisablesShown old new name (Some (Some v)) w (Err _) = ⊥
