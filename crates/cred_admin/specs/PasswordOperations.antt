-- The effect of the operations on one account.
use Rattle.std.specs.Io.KnownBytes.{Keeps}
use Rattle.std.specs.Prelude.{◌≡◌, ◌⊎◌, ℕ, List, Bool, not, Option, Some, None, Result, Ok, Err, IfErr, true, false}
use Rattle.cred_phc.specs.Values.{RecordValue}
use Rattle.cred_book.specs.{Works.new_record, declared.request.Reply.Reply}
use Rattle.cred_file.specs.Changes.{has_room_for}
use Rattle.cred_admin.specs.{Lines.IsMisread, Lines.Reads, Listing.Tells, Seen.Seen, Marked.MarkedBook, Marked.tried, Marked.with_account, Marked.with_record, Statuses.hint_of, Statuses.verdict_line, Statuses.verdict_status}
use Rattle.cred_admin.specs.declared.password_operation.PasswordOperation.TheVariants.{Add, Check, Change, Reset, Upgrade, Remove}
use Rattle.cred_admin.specs.{declared.fault.Fault.Fault, declared.password_operation.PasswordOperation.PasswordOperation, declared.password.Passwords.Passwords}
use Rattle.cred_admin.specs.{declared.password.Typed.Typed, declared.status.Hint.Hint, declared.status.Status.Status, declared.verdict.Verdict.Verdict, declared.verdict.Verdict.TheVariants.Told}
use Rattle.cred_admin.specs.declared.password.Passwords.TheVariants.{Present, New, PresentAndNew}
use Rattle.std.specs.FinMap as map
use Rattle.cred_book.specs.declared.request.Reply.TheVariants as reply
use Rattle.cred_book.specs.declared.request.Request.TheVariants as request
use Rattle.cred_admin.specs.declared.fault.Fault.TheVariants as fault

-- ---- what is asked

abbrev pub passwords_of : PasswordOperation → Passwords
passwords_of (Add new) = New new.empty
passwords_of Check = Present
passwords_of (Change new) = PresentAndNew new.empty
passwords_of (Reset new) = New new.empty
passwords_of (Upgrade setting) = Present
passwords_of Remove = Present

-- ---- what is done

-- a first record may be put at the name: it has none, and isn't locked
abbrev pub takes_first_at : Option (Option RecordValue) → Bool → Bool
takes_first_at None is_locked = true
takes_first_at (Some None) is_locked = not is_locked
takes_first_at (Some (Some there)) is_locked = false

abbrev pub takes_first : MarkedBook → List ℕ → Bool
takes_first book name = takes_first_at (map.get book.accounts name) (book.marks name).locked

-- If the account has no record, it gets this one. A missing account is added first. A locked
-- account gets none.
abbrev pub enrolment_at : MarkedBook → List ℕ → RecordValue → Option (Option RecordValue) → Bool
    → Reply × MarkedBook
enrolment_at book name stored None is_locked =
    (reply.Enrolled, with_account book name (Some stored))
enrolment_at book name stored (Some None) false =
    (reply.Enrolled, with_record book name (Some stored))
enrolment_at book name stored (Some None) true = (reply.Exists, book)
enrolment_at book name stored (Some (Some there)) is_locked = (reply.Exists, book)

abbrev pub enrolment : MarkedBook → List ℕ → RecordValue → Reply × MarkedBook
enrolment book name stored =
    enrolment_at book name stored (map.get book.accounts name) (book.marks name).locked

-- the record is put at an account, whatever stands there
abbrev pub reset_at : MarkedBook → List ℕ → RecordValue → Option (Option RecordValue)
    → Reply × MarkedBook
reset_at book name stored None = (reply.NoAccount, book)
reset_at book name stored (Some None) = (reply.Enrolled, with_record book name (Some stored))
reset_at book name stored (Some (Some there)) =
    (reply.Replaced, with_record book name (Some stored))

abbrev pub reset_step : MarkedBook → List ℕ → RecordValue → Reply × MarkedBook
reset_step book name stored = reset_at book name stored (map.get book.accounts name)

abbrev pub as_told : Reply × MarkedBook → Verdict × MarkedBook
as_told o = (Told o.0, o.1)

-- the answer to the operation with these passwords, and the book after it
abbrev pub done : MarkedBook → List ℕ → PasswordOperation → Typed → Verdict × MarkedBook
done book name (Add new) t = as_told (enrolment book name (new_record new.setting t.last))
done book name Check t = tried book (request.Verify name t.first)
done book name (Change new) t = tried book (request.Change name t.first t.last new.setting)
done book name (Reset new) t = as_told (reset_step book name (new_record new.setting t.last))
done book name (Upgrade setting) t = tried book (request.Upgrade name t.first setting)
done book name Remove t = tried book (request.Remove name t.first)

-- the operation adds an account for which there is no room
abbrev pub FindsNoRoom : ℕ → MarkedBook → List ℕ → PasswordOperation → Type 0
FindsNoRoom capacity book name (Add new) = has_room_for capacity book.accounts name ≡ false
FindsNoRoom capacity book name _ = ⊥

-- the operation ends with this answer and this book; or memory runs out, or there is no room, and
-- the book is as it was
abbrev pub ComesTo : Verdict × MarkedBook → Type 0 → MarkedBook → MarkedBook
    → Result Verdict Fault → Type 0
ComesTo outcome NoRoom old new (Ok v) = (v, new) ≡ outcome
ComesTo outcome NoRoom old new (Err fault.Memory) = new ≡ old
ComesTo outcome NoRoom old new (Err fault.Full) = NoRoom × (new ≡ old)
ComesTo outcome NoRoom old new (Err _) = ⊥

-- the operation is done with these passwords, or not
abbrev pub Works : ℕ → MarkedBook → MarkedBook → List ℕ → PasswordOperation → Typed
    → Result Verdict Fault → Type 0
Works capacity old new name o t r =
    ComesTo (done old name o t) (FindsNoRoom capacity old name o) old new r

-- ---- what comes of it

-- what is written of a verdict, and the status that goes with it
abbrev pub answer_of : Verdict → Option Hint → List ℕ × Status
answer_of v hint = (verdict_line v, verdict_status v hint)

-- the operation is done, and answered or not; the hint is the first line's
abbrev pub IsDone : ℕ → List ℕ → PasswordOperation → Seen → Result Status Fault → Type 0
IsDone capacity name operation s ended = (t : Typed) × Reads (passwords_of operation) s.reading t
    × (v : Verdict) × Works capacity s.old s.new name operation t (Ok v)
    × Tells (answer_of v (hint_of t.first)) s.writing ended
    × IfErr ended (λ e. e ≡ fault.Write)

-- the passwords aren't read, and the book is as it was; or the operation meets this fault
abbrev pub IsNotDone : ℕ → List ℕ → PasswordOperation → Seen → Fault → Type 0
IsNotDone capacity name operation s e =
    (IsMisread (passwords_of operation) s.reading e × (s.new ≡ s.old))
    ⊎ ((t : Typed) × Reads (passwords_of operation) s.reading t
    × Works capacity s.old s.new name operation t (Err e))

-- the operation is done, or it isn't and nothing is written
abbrev pub Obeys : ℕ → List ℕ → PasswordOperation → Seen → Result Status Fault → Type 0
Obeys capacity name operation s ended = IsDone capacity name operation s ended
    ⊎ ((e : Fault) × (ended ≡ Err e) × IsNotDone capacity name operation s e
    × Keeps s.writing.before s.writing.now)
