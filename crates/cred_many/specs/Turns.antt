-- How often a line may still be hashed, and what a call of a scribe does to it.
use Rattle.std.specs.List.{Contains, sum_by}
use Rattle.std.specs.Prelude.{◌≡◌, ◌≢◌, ◌⊎◌, ℕ, suc, ◌+◌, ◌-◌, ◌≤◌, ◌==◌, ◌||◌, List, [], ◌∷◌, ◌++◌, All, Bool, true, false, if◌then◌else◌, Option, Some, None}
use Rattle.cred_book.specs.{Works.Task, Works.name_of, Works.same}
use Rattle.cred_admin.specs.Marked.{MarkedBook}
use Rattle.cred_many.specs.{LineOperations.Entry, Scribe.unseen, Served.record_at, Served.tries, declared.open.Open.Open, declared.open.Sight.Sight, declared.scribe.job.Message.Message, declared.scribe.job.Message.TheVariants.Hashed, declared.scribe.job.Message.TheVariants.NoMemory}

-- ---- the turns of a line

-- the changes of its account's record that an open line has seen
abbrev pub seen_by : Option Sight → ℕ
seen_by None = 0
seen_by (Some s) = s.changes

-- the turns of an open line of this number: one, and one for each change that it may still see
-- before it is given up
abbrev pub turns_of : ℕ → Open → ℕ
turns_of number o = if o.number == number then suc (tries - seen_by o.sight) else 0

-- how often the line of this number may still be hashed: none, once it is open no more
unfoldable pub turns_left : ℕ → List Open → ℕ
turns_left number lines = sum_by (turns_of number) lines

-- no line may be hashed more often than before
abbrev pub KeepsTurns : List Open → List Open → Type 0
KeepsTurns old new = (number : ℕ) → turns_left number new ≤ turns_left number old

-- the line of this number has used a turn, if it had one
pub record UsesTurn (number : ℕ) (old new : List Open) : Type 0 where
  pub fewer : turns_left number new ≤ turns_left number old - 1
  pub others : KeepsTurns old new

-- ---- a work that comes back

-- the account's record isn't the one that was copied
abbrev pub HasMoved : MarkedBook → Task → Type 0
HasMoved book task = same (record_at book (name_of task.0)) task.1 ≡ false

-- ---- several works

-- each of these lines has used a turn, if it had one
pub record UseTurns (lines : List Entry) (old new : List Open) : Type 0 where
  pub fewer : All (λ e. turns_left e.number new ≤ turns_left e.number old - 1) lines
  pub others : KeepsTurns old new

-- each of these works comes back, or its line has used a turn
pub record HaveTurns (works back : List (Entry × Task)) (old new : List Open) : Type 0 where
  pub each :
      All (λ w. Contains back w ⊎ (turns_left w.0.number new ≤ turns_left w.0.number old - 1)) works
  pub others : KeepsTurns old new

-- The state of the waiting works and of a message's work: each waits on, or its line has used a
-- turn.
abbrev pub AreTakenIn : {J : Type 0} → Message J → List (Entry × Task) → List (Entry × Task)
    → List Open → List Open → Type 0
AreTakenIn (Hashed work) before after old new = HaveTurns (before ++ work ∷ []) after old new
AreTakenIn (NoMemory work) before after old new =
    (after ≡ before) × UsesTurn work.0.number old new
AreTakenIn _ before after old new = after ≡ before

-- ---- calls, one after another

-- a call on a scribe: which line it opens, of which lines it takes the work, and what is open after
pub record Call : Type 0 where
  pub opens : Option ℕ
  pub works : List ℕ
  pub after : List Open

abbrev pub with_opened : List Open → Option ℕ → List Open
with_opened old None = old
with_opened old (Some number) = old ++ unseen number ∷ []

abbrev pub has_number : ℕ → List ℕ → Bool
has_number number [] = false
has_number number (n ∷ ns) = (n == number) || has_number number ns

-- the call does what each call on a scribe does that reports no fault
pub record IsCall (old : List Open) (call : Call) : Type 0 where
  pub keeps : KeepsTurns (with_opened old call.opens) call.after
  pub fewer : (number : ℕ) → has_number number call.works ≡ true
      → turns_left number call.after ≤ turns_left number (with_opened old call.opens) - 1

abbrev pub Follow : List Open → List Call → Type 0
Follow old [] = Unit {0}
Follow old (call ∷ calls) = IsCall old call × Follow call.after calls

-- the lines that are open after the last call
abbrev pub open_after : List Open → List Call → List Open
open_after old [] = old
open_after old (call ∷ calls) = open_after call.after calls

-- how many of these calls took the work of this line
abbrev pub works_of : ℕ → List Call → ℕ
works_of number [] = 0
works_of number (call ∷ calls) =
    (if has_number number call.works then 1 else 0) + works_of number calls

-- none of these calls opens this line
abbrev pub OpenOthers : ℕ → List Call → Type 0
OpenOthers number calls = All (λ call. call.opens ≢ Some number) calls
