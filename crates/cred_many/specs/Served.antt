-- The meaning of a service at every moment: one list of lines, each done whole, one after another.
use Rattle.std.specs.{List.range_with_len, List.Sorted.IsPermutation, Option.option_map}
use Rattle.std.specs.Prelude.{◌≡◌, ◌≢◌, ◌⊎◌, ℕ, ◌<◌, ◌≤◌, ◌+◌, ◌-◌, ◌^◌, List, [], ◌∷◌, ◌++◌, Bool, true, false, if◌then◌else◌, IfSome, is_some, nat_lt, Option, Some, None, length, map, take, slice_get, slice_index_or, unwrap_or, codes, decimal}
use Rattle.cred_phc.specs.{Text.record_text, Values.RecordValue}
use Rattle.cred_file.specs.{Cells.cell, Cells.is_blank, Cells.is_marked, Cells.mark_text, declared.marks.Mark.Mark}
use Rattle.cred_book.specs.{Works.name_of, Works.new_record, Works.same, declared.request.Reply.Reply}
use Rattle.cred_cli.specs.{History.Done, History.Refused, History.Shown, Script.lines_of, Texts.line_of, Texts.reply_line}
use Rattle.cred_cli.specs.Watched.{failed_of}
use Rattle.cred_admin.specs.{PasswordOperations.reset_step, AccountOperations.disabling, AccountOperations.account_reply_line, AccountOperations.account_reply_status, AccountOperations.operated, AccountOperations.lacks_room, Listing.passwd_line}
use Rattle.cred_admin.specs.{Marked.MarkedBook, Marked.mark_in, Marked.tried, Marked.with_account, Marked.with_record, Statuses.verdict_line, declared.verdict.Verdict.Verdict, declared.verdict.Verdict.TheVariants.Told}
use Rattle.cred_many.specs.{LineOperations.Entry, LineOperations.hashed_for, LineOperations.refused, Names.marked_page, Names.marks_line, Names.names_line, Names.page, Service.Service, Service.asked, declared.line_operation.LineOperation.LineOperation}
use Rattle.cred_many.specs.Transcript.{TakesMore, Written, written_of}
use Rattle.cred_many.specs.Tries.{effect_by, event_of, forgiving_effect, is_try, is_try_request, reset_effect}
use Rattle.cred_many.specs.declared.tries.Effect.{Effect}
use Rattle.cred_many.specs.declared.tries.Effect.TheVariants as effect
use Rattle.cred_tries.specs.{Answers.KeepLimit, Answers.with_told, Histories.Event, Histories.Sent, Steps.is_name_of}
use Rattle.cred_many.specs.declared.line_operation.LineOperation.TheVariants.{Quick, Whole, Login, Reset, Forgive, Later}
use Rattle.cred_many.specs.declared.line_operation.QuickOperation.TheVariants.{Account, Load, Show, DisableShown, Bad, OnAccount, List as Names, ListMarks}
use Rattle.cred_many.specs.{declared.ending.Served.Served, declared.fault.ServiceFault.ServiceFault}
use Rattle.std.specs.FinMap as fin
use Rattle.cred_book.specs.declared.error.BookError.TheVariants as error
use Rattle.cred_book.specs.declared.request.Reply.TheVariants as reply
use Rattle.cred_book.specs.declared.request.Request.TheVariants as request
use Rattle.cred_cli.specs.declared.refusal.Refusal.TheVariants as refusal
use Rattle.cred_admin.specs.declared.account_reply.AccountReply.TheVariants as account_reply
use Rattle.cred_admin.specs.declared.status.Status.TheVariants as status
use Rattle.cred_many.specs.declared.fault.ServiceFault.TheVariants as fault

-- ---- what is done

-- a login is answered as a verify, whatever becomes of the record
abbrev pub login_reply : Reply → Reply
login_reply reply.Wrong = reply.No
login_reply reply.Kept = reply.Yes
login_reply reply.Upgraded = reply.Yes
login_reply r = r

-- the reply under which an operation on a record is answered
abbrev pub told_reply : LineOperation → Reply → Reply
told_reply (Login name pw setting) r = login_reply r
told_reply _ r = r

abbrev pub login_verdict : Verdict → Verdict
login_verdict (Told r) = Told (login_reply r)
login_verdict verdict = verdict

-- the verdict under which such an operation is answered
abbrev pub told_verdict : LineOperation → Verdict → Verdict
told_verdict operation (Told r) = Told (told_reply operation r)
told_verdict operation verdict = verdict

-- the line of an account whose record is removed, with its mark, or the answer that it has none
abbrev pub disabled_line : List ℕ → Mark → Option (Option RecordValue) → List ℕ
disabled_line name m None = account_reply_line account_reply.NoAccount
disabled_line name m (Some None) = account_reply_line account_reply.Absent
disabled_line name m (Some (Some stored)) = passwd_line m (name, Some stored)

-- the marks of an account and then its record, as the book's row has them; a row without either is
-- `none`
abbrev pub shown_line : Mark → Option (Option RecordValue) → List ℕ
shown_line m None = line_of (Refused (refusal.Book error.NoAccount))
shown_line m (Some None) =
    if is_marked m then (mark_text m ++ 10 ∷ []) else line_of (Shown None)
shown_line m (Some (Some stored)) = mark_text m ++ record_text stored ++ 10 ∷ []

-- the failed tries at an account are forgiven, if the book has it
abbrev pub forgiven_line : Bool → List ℕ
forgiven_line true = codes "forgiven\n"
forgiven_line false = account_reply_line account_reply.NoAccount

-- a try is too early by so many seconds
abbrev pub later_line : ℕ → List ℕ
later_line seconds = codes "later " ++ decimal seconds ++ 10 ∷ []

-- the answer to the whole operation on the book, with its line end, and the book after it
abbrev pub done : ℕ → MarkedBook → LineOperation → List ℕ × MarkedBook
done capacity book (Quick (Account name)) =
    if fin.contains_key book.accounts name
    then (line_of (Refused (refusal.Book error.Exists)), book)
    else if nat_lt (fin.len book.accounts) capacity
    then (line_of Done, with_account book name None)
    else (line_of (Refused (refusal.Book error.Full)), book)
done capacity book (Quick (Load name stored)) =
    if fin.contains_key book.accounts name
    then (line_of Done, with_record book name (Some stored))
    else (line_of (Refused (refusal.Book error.NoAccount)), book)
done capacity book (Quick (Show name)) =
    (shown_line (book.marks name) (fin.get book.accounts name), book)
done capacity book (Quick (Names from most)) =
    (names_line (page from most (fin.keys book.accounts)), book)
done capacity book (Quick (ListMarks from most)) = (
  marks_line book.marks (marked_page book.marks from most (fin.keys book.accounts)),
  book,
)
done capacity book (Quick (OnAccount operation)) =
    if lacks_room capacity book operation then (line_of (Refused (refusal.Book error.Full)), book)
    else (account_reply_line (operated book operation).0, (operated book operation).1)
done capacity book (Quick (DisableShown name)) =
    (disabled_line name (book.marks name) (fin.get book.accounts name), (disabling book name).1)
done capacity book (Quick (Bad why)) = (line_of (Refused why), book)
done capacity book (Whole r) = (verdict_line (tried book r).0, (tried book r).1)
done capacity book (Login name pw setting) = (
  verdict_line (login_verdict (tried book (request.Upgrade name pw setting)).0),
  (tried book (request.Upgrade name pw setting)).1,
)
done capacity book (Reset name pw setting) = (
  reply_line (reset_step book name (new_record setting pw)).0,
  (reset_step book name (new_record setting pw)).1,
)
done capacity book (Forgive name) = (forgiven_line (fin.contains_key book.accounts name), book)
done capacity book (Later name seconds) = (later_line seconds, book)

-- the answer to a line at this book, as it is written: `TAG ANSWER`
abbrev pub line_at : ℕ → MarkedBook → Entry → List ℕ
line_at capacity book e = e.tag ++ 32 ∷ (done capacity book e.operation).0

-- the book after the lines
unfoldable pub book_after : ℕ → MarkedBook → List Entry → MarkedBook
book_after capacity book [] = book
book_after capacity book (e ∷ es) = book_after capacity (done capacity book e.operation).1 es

-- the answers to these lines
unfoldable pub answers : ℕ → MarkedBook → List Entry → List ℕ
answers capacity book [] = []
answers capacity book (e ∷ es) =
    line_at capacity book e ++ answers capacity (done capacity book e.operation).1 es

-- ---- how often a record changed

-- the record of the name, or none
abbrev pub record_at : MarkedBook → List ℕ → Option RecordValue
record_at book name = unwrap_or (fin.get book.accounts name) None

abbrev pub change_from : Option RecordValue → Option RecordValue → ℕ
change_from old new = if same old new then 0 else 1

-- how many of the lines changed the record of the name
unfoldable pub changes : ℕ → MarkedBook → List ℕ → List Entry → ℕ
changes capacity book name [] = 0
changes capacity book name (e ∷ es) =
    change_from (record_at book name) (record_at (done capacity book e.operation).1 name)
    + changes capacity (done capacity book e.operation).1 name es

-- whose record is hashed for a line
abbrev pub name_asked : LineOperation → List ℕ
name_asked operation = unwrap_or (option_map name_of (hashed_for operation)) []

-- ---- what the answers tell of tries

-- what the answer to this line at this book tells of the password of the account that it asks about
abbrev pub effect_of : MarkedBook → LineOperation → Effect
effect_of book (Whole r) = effect_by (is_try_request r) (tried book r).0
effect_of book (Login name pw setting) =
    effect_by true (tried book (request.Upgrade name pw setting)).0
effect_of book (Reset name pw setting) =
    reset_effect (reset_step book name (new_record setting pw)).0
effect_of book (Quick operation) = effect.Nothing
effect_of book (Forgive name) = forgiving_effect (fin.contains_key book.accounts name)
effect_of book (Later name seconds) = effect.Nothing

-- what such an answer at this moment tells of the tries at a name
abbrev pub told_by : MarkedBook → List ℕ → LineOperation → ℕ → Option Event
told_by book name (Forgive other) t =
    if is_name_of name other then event_of (effect_of book (Forgive other)) t else None
told_by book name (Later other seconds) t =
    if is_name_of name other then Some (Sent t seconds) else None
told_by book name operation t =
    if is_name_of name (name_asked operation) then event_of (effect_of book operation) t else None

-- what the answers to these lines at these moments tell, added to what was told before; the latest
-- comes first
unfoldable pub told_on : ℕ → MarkedBook → List ℕ → List Entry → List ℕ → List Event → List Event
told_on capacity book name [] times before = before
told_on capacity book name (e ∷ es) [] before = before
told_on capacity book name (e ∷ es) (t ∷ times) before =
    told_on capacity (done capacity book e.operation).1 name es times
    (with_told (told_by book name e.operation t) before)

abbrev pub told_at : ℕ → MarkedBook → List Entry → List ℕ → List ℕ → List Event
told_at capacity book list times name = told_on capacity book name list times []

-- ---- lines that are given up

-- The line needs memory at this book: for a hash, a list, the text of a record or a change. A line
-- that would be refused anyway is never given up for want of memory.
abbrev pub NeedsMemory : ℕ → MarkedBook → LineOperation → Type 0
NeedsMemory capacity book (Quick (Account name)) =
    (fin.contains_key book.accounts name ≡ false) × (fin.len book.accounts < capacity)
NeedsMemory capacity book (Quick (Load name stored)) =
    fin.contains_key book.accounts name ≡ true
NeedsMemory capacity book (Quick (Show name)) =
    is_blank (cell (record_at book name) (mark_in book name)) ≡ false
NeedsMemory capacity book (Quick (OnAccount operation)) =
    (account_reply_status (operated book operation).0 ≡ status.Done)
    × (lacks_room capacity book operation ≡ false)
NeedsMemory capacity book (Quick (DisableShown name)) = is_some (record_at book name) ≡ true
NeedsMemory capacity book (Quick (Bad why)) = ⊥
NeedsMemory capacity book (Forgive name) = ⊥
NeedsMemory capacity book (Later name seconds) = ⊥
NeedsMemory capacity book _ = Unit {0}

-- the number of changes of its account's record after which a line is given up
abbrev pub tries : ℕ
tries = 8

-- A line that asks for this gets the second answer behind these lines: for want of memory, because
-- these lines changed the record so often, or because its try is too early.
abbrev pub IsGivenUp : ℕ → Service → List Entry → LineOperation → LineOperation → Type 0
IsGivenUp capacity s before line told =
    ((told ≡ refused (refusal.Book error.Memory))
    × NeedsMemory capacity (book_after capacity s.opening before) line)
    ⊎ ((told ≡ refused refusal.Busy)
    × (tries ≤ changes capacity s.opening (name_asked line) before))
    ⊎ (((seconds : ℕ) × (told ≡ Later (name_asked line) seconds))
    × (is_try line ≡ true)
    × (is_some s.tries ≡ true))

-- ---- at every moment

-- the entry is one of the lines of the input, or such a line given up
pub record IsFor (capacity : ℕ) (s : Service) (bytes : List ℕ) (before : List Entry) (e : Entry)
    : Type 0 where
  pub line : Entry
  pub came : slice_get (asked s bytes) e.number ≡ Some line
  pub tag : e.tag ≡ line.tag
  pub operation : (e.operation ≡ line.operation)
      ⊎ IsGivenUp capacity s before line.operation e.operation

-- each entry is one of these, behind the entries before it
abbrev pub AreFor : ℕ → Service → List ℕ → List Entry → Type 0
AreFor capacity s bytes list = (i : ℕ) (d : Entry) → i < length list
    → IsFor capacity s bytes (take i list) (slice_index_or list i d)

abbrev pub entry_numbers : List Entry → List ℕ
entry_numbers list = map (λ e. e.number) list

-- the maximum number of changes that are made together, and answered at once
abbrev pub most_together : ℕ
most_together = 64

-- The writer accepted all answers to these lines, unless it failed. Then it may lack the answers to
-- the last lines, at most so many.
pub record IsWritten (capacity : ℕ) (s : Service) (now : Written) (list : List Entry)
    (why : Option ServiceFault) : Type 0 where
  pub bytes : ℕ
  pub front : TakesMore s.before now (take bytes (answers capacity s.opening list))
  pub whole : why ≢ Some fault.Write → bytes ≡ length (answers capacity s.opening list)
  pub most :
      length (answers capacity s.opening (take (length list - most_together) list)) ≤ bytes

-- what a scribe has at a moment: the book; the visible state of its writer; whether a call on the
-- source, the writer or the keeper has failed; why it answers no more lines; the lines that came
-- and have no answer yet; how many lines came; and how many seconds have passed by the clock
pub record Moment : Type 0 where
  pub book : MarkedBook
  pub written : Written
  pub source_failed : Bool
  pub writer_failed : Bool
  pub keeper_failed : Bool
  pub fault : Option ServiceFault
  pub pending : List ℕ
  pub came : ℕ
  pub passed : ℕ

-- The service answers no more lines because a call on the source, the writer or the keeper failed,
-- because the maximum number of lines came, or because a line has no answer. The fault `Memory`
-- says nothing, and `Threads` says that no call on the source failed.
abbrev pub HasCause : Option (List ℕ) → Moment → Option ServiceFault → Type 0
HasCause input m None = Unit {0}
HasCause input m (Some fault.Read) = m.source_failed ≡ true
HasCause input m (Some fault.Write) = m.writer_failed ≡ true
HasCause input m (Some fault.Keeper) = m.keeper_failed ≡ true
HasCause input m (Some fault.TooLong) = 2 ^ 63 ≤ m.came
HasCause input m (Some fault.Lost) =
    (m.pending ≢ []) ⊎ IfSome input (λ bytes. m.came ≢ length (lines_of bytes))
HasCause input m (Some fault.Memory) = Unit {0}
HasCause input m (Some fault.Threads) = m.source_failed ≡ false

-- There is one list of lines, each for a line of the input. Each line that came is in the list
-- once, or is pending. The book is the one after the list, and the writer has its answers. These
-- answers came at these moments, and keep the limit of failed tries.
pub record Stands (capacity : ℕ) (s : Service) (m : Moment) : Type 0 where
  pub list : List Entry
  pub times : List ℕ
  pub each : IfSome s.input (λ bytes. AreFor capacity s bytes list)
  pub once : IsPermutation (entry_numbers list ++ m.pending) (range_with_len 0 m.came)
  pub book : m.book ≡ book_after capacity s.opening list
  pub text : IsWritten capacity s m.written list m.fault
  pub timed : length times ≡ length list
  pub limited : IfSome s.tries
      (λ limit. KeepLimit limit m.passed times (told_at capacity s.opening list times))
  pub cause : HasCause s.input m m.fault

-- what is left of a service with these pending lines, where these functions tell the book and the
-- failure of a keeper, the bytes of a writer, and the failure of a source
abbrev pub left_of : {K W S : Type 0} → (K → MarkedBook) → (K → Bool) → (W → Option (List ℕ))
    → (S → Bool) → Served K W S → List ℕ → Moment
left_of book failed contents source_failed served pending = record {
  book = book served.keeper;
  written = written_of contents served.writer;
  source_failed = unwrap_or (option_map source_failed served.source) false;
  writer_failed = failed_of served.writer;
  keeper_failed = failed served.keeper;
  fault = served.fault;
  pending = pending;
  came = served.lines;
  passed = served.passed;
}

-- the service has this meaning at the end, with no pending line unless it reports a fault
pub record StandsAtEnd (capacity : ℕ) (s : Service) (at : List ℕ → Moment) : Type 0 where
  pub pending : List ℕ
  pub stands : Stands capacity s (at pending)
  pub none_pending : (at pending).fault ≡ None → pending ≡ []
