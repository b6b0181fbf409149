-- The state of a scribe: what each open line has seen, the answered lines, and the lines whose
-- changes are made together. Public clauses cite `moment`, `numbers`, `unseen`, `IsPending`,
-- `HasTurn` and `IsAnswered`, and by specs/Adds.antt `AddsOne`, `AddsSome`, `answered_by`,
-- `IsCountedAt` and `IsNotSentAway`.
use Rattle.std.specs.{List.range_with_len, List.remove, List.Sorted.IsPermutation, Option.option_or, Str.bytes_eq}
use Rattle.std.specs.Prelude.{◌≡◌, ◌⊎◌, ℕ, ◌<◌, ◌≤◌, ◌+◌, List, [], ◌∷◌, ◌++◌, Bool, ◌&&◌, true, false, All, if◌then◌else◌, IfSome, Option, Some, None, is_none, length, map, set, slice_get}
use Rattle.cred_phc.specs.Values.{RecordValue}
use Rattle.cred_book.specs.{Accounts.Accounts, Works.Task, Works.same}
use Rattle.cred_file.specs.Cells.{unmarked}
use Rattle.cred_admin.specs.Marked.{MarkedBook}
use Rattle.cred_cli.specs.Watched.{failed_of}
use Rattle.cred_many.specs.{LineOperations.Entry, Service.IsLine, Service.Service, declared.line_operation.LineOperation.LineOperation, declared.fault.ServiceFault.ServiceFault}
use Rattle.cred_many.specs.Served.{AreFor, IsWritten, Moment, answers, book_after, done, change_from, changes, entry_numbers, most_together, name_asked, record_at, tries}
use Rattle.cred_many.specs.Transcript.{TakesFront, TakesMore, Written, written_of}
use Rattle.cred_many.specs.{declared.fault.ServiceFault.TheVariants.Write, declared.scribe.job.Message.Message, declared.scribe.job.Message.TheVariants.Hashed, declared.scribe.job.Message.TheVariants.NoMemory, declared.open.Open.Open, declared.open.Sight.Sight, declared.output.Output.Output}
use Rattle.cred_many.specs.Served.{effect_of, told_at}
use Rattle.cred_many.specs.declared.line_operation.LineOperation.TheVariants.{Quick, Forgive, Later}
use Rattle.cred_many.specs.declared.tries.Effect.{Effect}
use Rattle.cred_many.specs.declared.tries.Effect.TheVariants as effect
use Rattle.cred_tries.specs.{Answers.HasCounted, Answers.IsIdle, Answers.IsSettled, Histories.Event, Limits.IsFree, Limits.Limits, Limits.after_try, Limits.forgive_outcome, Limits.sending, Limits.seen}
use Rattle.cred_tries.specs.declared.turn.Ending.TheVariants as ending
use Rattle.std.specs.FinMap as fin

-- ---- what an open line has seen

-- The line saw the account's record change no more often than it did, even if a difference between
-- the last copy and the record behind these lines counts as one more change.
abbrev pub SightHolds : ℕ → MarkedBook → List Entry → Open → Type 0
SightHolds capacity opening list line = IfSome line.sight (λ s.
    s.changes + change_from s.stored (record_at (book_after capacity opening list) s.name)
    ≤ changes capacity opening s.name list)

-- a line whose account's record the scribe hasn't looked at
abbrev pub unseen : ℕ → Open
unseen number = record { number = number; sight = None }

-- how often the line has seen the record change, if this record stands now
abbrev pub counted : Option Sight → List ℕ → Option RecordValue → ℕ
counted None name now = 0
counted (Some s) name now =
    if bytes_eq s.name name then s.changes + change_from s.stored now else 0

-- the open line at this place has seen this present record; until the line is given up, each change
-- counts
pub record Notes (old : List Open) (place : ℕ) (name : List ℕ) (now : Option RecordValue)
    (new : List Open) (count : ℕ) : Type 0 where
  pub line : Open
  pub there : slice_get old place ≡ Some line
  pub few : count ≤ counted line.sight name now
  pub all : count < tries → counted line.sight name now ≤ count
  pub new_is : new ≡ set old place (record {
    number = line.number;
    sight = Some (record { name = name; stored = now; changes = count });
  })

-- the line may be hashed once more
abbrev pub IsLooked : List Open → ℕ → List ℕ → Option RecordValue → List Open → Type 0
IsLooked old place name now new = (count : ℕ) × (count < tries) × Notes old place name now new count

abbrev pub is_sight : Option Sight → List ℕ → Option RecordValue → Bool
is_sight None name stored = false
is_sight (Some s) name stored = bytes_eq s.name name && same s.stored stored

-- whether this record was last copied for the open line at this place
pub record HasSeen (left : List Open) (place : ℕ) (name : List ℕ) (stored : Option RecordValue)
    (is : Bool) : Type 0 where
  pub line : Open
  pub there : slice_get left place ≡ Some line
  pub is_seen : is ≡ is_sight line.sight name stored

-- the open line at this place has seen often enough that the record of what it asks about changed
pub record IsBusy (left : List Open) (place : ℕ) (operation : LineOperation) : Type 0 where
  pub line : Open
  pub sight : Sight
  pub there : slice_get left place ≡ Some line
  pub seen : line.sight ≡ Some sight
  pub name_is : sight.name ≡ name_asked operation
  pub often : tries ≤ sight.changes

abbrev pub numbers : List Open → List ℕ
numbers left = map (λ o. o.number) left

-- the lines are open no more
abbrev pub AreClosed : List Entry → List Open → List Open → Type 0
AreClosed [] old new = new ≡ old
AreClosed (e ∷ es) old new = (place : ℕ) × (slice_get (numbers old) place ≡ Some e.number)
    × AreClosed es (remove old place) new

-- one of the pending lines has this number
abbrev pub IsPending : ℕ → List ℕ → Type 0
IsPending number pending = (place : ℕ) × (slice_get pending place ≡ Some number)

-- the line of this number is no longer pending, but the others are
abbrev pub IsAnswered : ℕ → List ℕ → List ℕ → Type 0
IsAnswered number old new =
    (place : ℕ) × (slice_get old place ≡ Some number) × (new ≡ remove old place)

-- a pending line of this number is answered, unless a fault is told
abbrev pub HasTurn : {W : Type 0} → ℕ → Output W → Output W → Type 0
HasTurn number old new = IsPending number (numbers old.pending) → new.fault ≡ None
    → IsAnswered number (numbers old.pending) (numbers new.pending)

-- a message says what came of hashing for this line
abbrev pub IsOf : {J : Type 0} → Entry → Message J → Type 0
IsOf line (Hashed hashed) = hashed.0 ≡ line
IsOf line (NoMemory job) = job.0 ≡ line
IsOf line _ = ⊥

-- no fault is told, and the open line of this number stands at this place
pub record IsReady (why : Option ServiceFault) (left : List Open) (place number : ℕ) : Type 0 where
  pub going : why ≡ None
  pub within : place < length left
  pub there : slice_get (numbers left) place ≡ Some number

-- ---- what one step does

-- the writer took a text, or failed in it
abbrev pub IsConcluded : List ℕ → Written → Written → Bool → Option ServiceFault → Type 0
IsConcluded text old new failed why = ((why ≡ None) × TakesMore old new text)
    ⊎ ((why ≡ Some Write) × TakesFront old new text × (failed ≡ true))

-- ---- what is counted of tries

-- no try runs: each begins and ends when it gets its answer
abbrev pub AreIdle : Option Limits → Type 0
AreIdle limits = IfSome limits IsIdle

-- a try at the name may be judged now
abbrev pub IsOpenTo : Option Limits → List ℕ → ℕ → Type 0
IsOpenTo limits name now = IfSome limits (λ l. IsFree l name now)

abbrev pub HasPlace : Effect → Option Limits → List ℕ → ℕ → Type 0
HasPlace effect.Right limits name now = IsOpenTo limits name now
HasPlace effect.Wrong limits name now = IsOpenTo limits name now
HasPlace effect.Forgiven limits name now = Unit {0}
HasPlace effect.Nothing limits name now = Unit {0}

-- what an answer of this effect at the name leaves, at a reading of the clock
abbrev pub limits_with : Effect → Limits → List ℕ → ℕ → Limits
limits_with effect.Right l name now = after_try l name now ending.Right
limits_with effect.Wrong l name now = after_try l name now ending.Wrong
limits_with effect.Forgiven l name now = (forgive_outcome l name).1
limits_with effect.Nothing l name now = l

abbrev pub HasEffect : ℕ → Option Limits → Option Limits → List ℕ → Effect → Type 0
HasEffect now None new name e = new ≡ None
HasEffect now (Some l) new name e =
    HasPlace e (Some l) name now × (new ≡ Some (limits_with e l name now))

-- a try at the name was too early at this reading, by so many seconds
abbrev pub IsSentAway : ℕ → Option Limits → Option Limits → List ℕ → ℕ → Type 0
IsSentAway now None new name seconds = ⊥
IsSentAway now (Some l) new name seconds =
    ((sending l name now).0 ≡ Some seconds) × (new ≡ Some (seen l now))

-- nothing is counted at the name
abbrev pub is_clear : Option Limits → List ℕ → Bool
is_clear None name = true
is_clear (Some l) name = is_none (fin.get l.counts name)

-- the answer to this line at this book is counted at this reading of the clock
abbrev pub IsCountedAt : ℕ → Option Limits → Option Limits → MarkedBook → LineOperation → Type 0
IsCountedAt now old new book (Later name seconds) = IsSentAway now old new name seconds
IsCountedAt now old new book (Forgive name) =
    HasEffect now old new name (effect_of book (Forgive name))
IsCountedAt now old new book operation =
    HasEffect now old new (name_asked operation) (effect_of book operation)

-- the answer is counted at some reading of the clock
abbrev pub IsCounted : Option Limits → Option Limits → MarkedBook → LineOperation → Type 0
IsCounted old new book operation = (now : ℕ) × IsCountedAt now old new book operation

-- the answers to these lines are counted at this reading, which changes nothing
abbrev pub AreCounted : ℕ → Option Limits → MarkedBook → List Entry → Type 0
AreCounted capacity limits book [] = Unit {0}
AreCounted capacity limits book (e ∷ es) = IsCounted limits limits book e.operation
    × AreCounted capacity limits (done capacity book e.operation).1 es

abbrev pub passed_of : Option Limits → ℕ
passed_of None = 0
passed_of (Some l) = l.clock.passed

-- the limiter, if there is a limit, has counted what is told at each name
abbrev pub KeepsCount : Option ℕ → Option Limits → List ℕ → (List ℕ → List Event) → Type 0
KeepsCount None None times told = Unit {0}
KeepsCount (Some limit) (Some l) times told = HasCounted limit l times told
KeepsCount _ _ times told = ⊥

-- the answered line needs no hash, and tells of no try
abbrev pub IsQuick : LineOperation → Type 0
IsQuick (Quick operation) = Unit {0}
IsQuick _ = ⊥

-- no try is sent away
abbrev pub IsNotSentAway : LineOperation → Type 0
IsNotSentAway (Later name seconds) = ⊥
IsNotSentAway _ = Unit {0}

-- ---- changes that are made together

-- the lines of what is hashed
abbrev pub entries_of : List (Entry × Task) → List Entry
entries_of works = map (λ w. w.0) works

-- the accounts of these names have these records, and the other accounts keep theirs
abbrev pub AreReplaced : Accounts → Accounts → Accounts → Type 0
AreReplaced old changed new =
    (name : List ℕ) → fin.get new name ≡ option_or (fin.get changed name) (fin.get old name)

-- A few lines that came. Done in their order, they give these accounts their records, and their
-- answers have this text. None of these accounts is marked or has counted failures.
pub record IsGroup (capacity : ℕ) (s : Service) (limits : Option Limits) (book : MarkedBook)
    (changed : Accounts) (list : List Entry) (text : List ℕ) : Type 0 where
  pub came : IfSome s.input (λ bytes. All (IsLine s bytes) list)
  pub few : length list ≤ most_together
  pub after : AreReplaced book.accounts changed (book_after capacity book list).accounts
  pub marks : (book_after capacity book list).marks ≡ book.marks
  pub plain : (name : List ℕ) → fin.contains_key changed name ≡ true
      → book.marks name ≡ unmarked
  pub text_is : text ≡ answers capacity book list
  pub counted : IfSome limits IsSettled → AreCounted capacity limits book list
  pub judged : All (λ e. IsNotSentAway e.operation) list

-- ---- the whole

-- what a scribe with these parts has, where functions tell the book and the failure of a keeper,
-- and the bytes of a writer
abbrev pub moment : {K W : Type 0} → (K → MarkedBook) → (K → Bool) → (W → Option (List ℕ)) → K
    → Output W → ℕ → Option Limits → Bool → Moment
moment book failed contents keeper output came limits source_failed = record {
  book = book keeper;
  written = written_of contents output.writer;
  source_failed = source_failed;
  writer_failed = failed_of output.writer;
  keeper_failed = failed keeper;
  fault = output.fault;
  pending = numbers output.pending;
  came = came;
  passed = passed_of limits;
}

-- A scribe with these parts has answered these lines at these moments. Each open line saw those of
-- their changes that it notes, and the limiter counts what the answers tell.
pub record HasAnswered (capacity : ℕ) (s : Service) (now : Written) (book : MarkedBook)
    (why : Option ServiceFault) (open_lines : List Open) (came : ℕ) (limits : Option Limits)
    (list : List Entry) (times : List ℕ) : Type 0 where
  pub each : IfSome s.input (λ bytes. AreFor capacity s bytes list)
  pub once : IsPermutation (entry_numbers list ++ numbers open_lines) (range_with_len 0 came)
  pub seen : All (SightHolds capacity s.opening list) open_lines
  pub book_is : book ≡ book_after capacity s.opening list
  pub text : IsWritten capacity s now list why
  pub timed : length times ≡ length list
  pub counted : KeepsCount s.tries limits times (told_at capacity s.opening list times)

-- the scribe has answered some lines at some moments
abbrev pub History : ℕ → Service → Written → MarkedBook → Option ServiceFault → List Open → ℕ
    → Option Limits → Type 0
History capacity s now book why open_lines came limits = (list : List Entry) × (times : List ℕ)
    × HasAnswered capacity s now book why open_lines came limits list times

-- ---- what a call adds

-- whether a scribe has answered these lines at these moments
abbrev pub answered_by : {K W : Type 0} → ℕ → Service → (K → MarkedBook)
    → (W → Option (List ℕ)) → K → Output W → ℕ → Option Limits → List Entry → List ℕ → Type 0
answered_by capacity s book contents keeper output came limits =
    HasAnswered capacity s (written_of contents output.writer) (book keeper) output.fault
    output.pending came limits

-- answered lines keep their moments, and the call answers no more lines
abbrev pub AddsNone : (List Entry → List ℕ → Type 0) → (List Entry → List ℕ → Type 0) → Type 0
AddsNone old new = (list : List Entry) (times : List ℕ) → old list times → new list times

-- Answered lines keep their moments, and the call answers at most one line more. This line has the
-- property, and its answer this moment.
abbrev pub AddsOne : (LineOperation → Type 0) → ℕ → (List Entry → List ℕ → Type 0)
    → (List Entry → List ℕ → Type 0) → Type 0
AddsOne IsSo t old new = (list : List Entry) (times : List ℕ) → old list times
    → ∥ new list times
    ⊎ ((e : Entry) × IsSo e.operation × new (list ++ e ∷ []) (times ++ t ∷ [])) ∥₁

-- Answered lines keep their moments, and each further answered line has the property, and its
-- answer this moment.
abbrev pub AddsSome : (LineOperation → Type 0) → ℕ → (List Entry → List ℕ → Type 0)
    → (List Entry → List ℕ → Type 0) → Type 0
AddsSome IsSo t old new = (list : List Entry) (times : List ℕ) → old list times
    → ∥ ((more : List Entry) × All (λ e. IsSo e.operation) more
    × new (list ++ more) (times ++ map (λ _. t) more)) ∥₁
