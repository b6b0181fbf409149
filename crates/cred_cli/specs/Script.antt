-- The answers to a script.
use Rattle.std.specs.Prelude.{ℕ, zero, suc, ◌==◌, if◌then◌else◌, List, [], ◌∷◌, ◌++◌, length, map, Option}
use Rattle.cred_book.specs.Accounts.{Accounts}
use Rattle.cred_cli.specs.{declared.event.Event.Event, Events.event_of, History.answer_at, Texts.line_of}

abbrev pub onto_first : ℕ → List (List ℕ) → List (List ℕ)
onto_first c [] = (c ∷ []) ∷ []
onto_first c (line ∷ lines) = (c ∷ line) ∷ lines

-- the pieces before each line end (byte 10), and the rest if it isn't empty
abbrev pub lines_of : List ℕ → List (List ℕ)
lines_of [] = []
lines_of (c ∷ cs) = if c == 10 then [] ∷ lines_of cs else onto_first c (lines_of cs)

abbrev pub events_of : List ℕ → List Event
events_of bytes = map event_of (lines_of bytes)

-- a script at its start: the book, its bytes, and what was written before it
pub record ScriptStart : Type 0 where
  pub book : Accounts
  pub bytes : List ℕ
  pub before : Option (List ℕ)

abbrev pub script_start : Accounts → List ℕ → Option (List ℕ) → ScriptStart
script_start book bytes before = record { book = book; bytes = bytes; before = before }

-- the answers to the first events, a line each
unfoldable pub answers_before : ℕ → Accounts → List Event → ℕ → List ℕ
answers_before capacity book events zero = []
answers_before capacity book events (suc i) =
    answers_before capacity book events i ++ line_of (answer_at capacity book events i)

-- the output for a script
abbrev pub out : ℕ → Accounts → List ℕ → List ℕ
out capacity book bytes = answers_before capacity book (events_of bytes) (length (events_of bytes))

-- the number of line ends in these bytes
abbrev pub line_ends : List ℕ → ℕ
line_ends [] = 0
line_ends (c ∷ cs) = if c == 10 then suc (line_ends cs) else line_ends cs
