-- The end of a script, and the state that it leaves.
use Rattle.std.specs.Prelude.{◌≡◌, ◌⊎◌, ℕ, suc, ◌+◌, ◌<◌, Option, Some, Bool, true, List, ◌++◌, length, take}
use Rattle.std.specs.Io.KnownBytes.{Appends, Consumes}
use Rattle.cred_book.specs.Accounts.{Accounts}
use Rattle.cred_cli.specs.{declared.event.Event.Event, declared.fault.ScriptFault.ScriptFault}
use Rattle.cred_cli.specs.declared.fault.ScriptFault.TheVariants.{Read, Write, Memory, TooLong}
use Rattle.cred_cli.specs.{History.answer_at, History.book_at, Script.ScriptStart, Script.answers_before, Script.events_of, Script.line_ends, Script.out, Texts.line_of}

-- the longest script in bytes
abbrev pub longest_script : ℕ
longest_script = 1048576

-- the maximum number of calls on the reader: one for each byte, one for a byte too many or the end,
-- and one after that
abbrev pub most_calls : ℕ
most_calls = longest_script + 2

-- a proper prefix of the bytes is written
abbrev pub FrontWritten : Option (List ℕ) → Option (List ℕ) → List ℕ → Type 0
FrontWritten before now bytes = (n : ℕ) × (n < length bytes) × Appends before now (take n bytes)

-- every line has its answer, and the book is the one after these lines
pub record IsAnswered (capacity : ℕ) (script : ScriptStart) (now : Option (List ℕ))
    (accounts : Accounts) (lines : ℕ) : Type 0 where
  pub written : Appends script.before now (out capacity script.book script.bytes)
  pub accounts_are : accounts ≡ book_at capacity script.book (events_of script.bytes)
      (length (events_of script.bytes))
  pub lines_are : lines ≡ length (events_of script.bytes)

-- the first i lines have answers, and the book is the one after these lines
pub record StandsAfter (capacity : ℕ) (book : Accounts) (events : List Event) (i : ℕ)
    (before now : Option (List ℕ)) (accounts : Accounts) : Type 0 where
  pub written : Appends before now (answers_before capacity book events i)
  pub accounts_are : accounts ≡ book_at capacity book events i

-- the first i lines are answered, a proper prefix of the next one's answer is written, and that
-- line is done
pub record StopsIn (capacity : ℕ) (book : Accounts) (events : List Event) (i : ℕ)
    (before now : Option (List ℕ)) (accounts : Accounts) : Type 0 where
  pub written : (n : ℕ) × (n < length (line_of (answer_at capacity book events i)))
      × Appends before now (answers_before capacity book events i
      ++ take n (line_of (answer_at capacity book events i)))
  pub accounts_are : accounts ≡ book_at capacity book events (suc i)

-- The state after a fault, where `left` is what the reader has left. Memory ran out for the line
-- after the answered ones, or before the first line.
abbrev pub ScriptFails : ℕ → ScriptStart → Option (List ℕ) → Option (List ℕ) → Accounts
    → ScriptFault → Type 0
ScriptFails capacity script left now accounts Read =
    (front : List ℕ) × Consumes (Some script.bytes) left front
    × StandsAfter capacity script.book (events_of script.bytes) (line_ends front)
    script.before now accounts
ScriptFails capacity script left now accounts Write =
    (i : ℕ) × (i < length (events_of script.bytes))
    × StopsIn capacity script.book (events_of script.bytes) i script.before now accounts
ScriptFails capacity script left now accounts Memory =
    (i : ℕ) × ((i < length (events_of script.bytes)) ⊎ (i ≡ 0))
    × StandsAfter capacity script.book (events_of script.bytes) i script.before now accounts
ScriptFails capacity script left now accounts TooLong =
    (longest_script < length script.bytes)
    × StandsAfter capacity script.book (events_of script.bytes)
    (line_ends (take longest_script script.bytes)) script.before now accounts

-- a fault of the reader or of the writer comes only if a call on it failed
abbrev pub HasCause : Bool → Bool → ScriptFault → Type 0
HasCause reader_failed writer_failed Read = reader_failed ≡ true
HasCause reader_failed writer_failed Write = writer_failed ≡ true
HasCause reader_failed writer_failed _ = Unit {0}
