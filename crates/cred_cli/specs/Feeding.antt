-- The state of a script after some of its bytes.
use Rattle.std.specs.Prelude.{◌≡◌, ℕ, suc, ◌==◌, if◌then◌else◌, Option, Some, List, [], ◌∷◌, ◌++◌, length, take, slice_get, Result, MatchResult}
use Rattle.cred_book.specs.{Accounts.Accounts, Works.Task}
use Rattle.cred_cli.specs.{Events.most_kept, declared.event.Event.Event, declared.fault.ScriptFault.ScriptFault, Watched.Reading, Watched.Writing}
use Rattle.cred_cli.specs.{declared.progress.Progress.Progress, declared.script.End.End, declared.script.Run.Run}
use Rattle.cred_cli.specs.{Outcome.IsAnswered, Outcome.ScriptFails, Outcome.StandsAfter, Script.ScriptStart, Script.events_of, Script.line_ends}
use Rattle.cred_cli.specs.{Scripts.ScriptEnds, Tickets.HoldTickets}

-- the bytes after the last line end
abbrev pub unfinished_from : List ℕ → List ℕ → List ℕ
unfinished_from line [] = line
unfinished_from line (c ∷ cs) =
    if c == 10 then unfinished_from [] cs else unfinished_from (line ++ c ∷ []) cs

-- the state of a run: the written bytes, the keeper's accounts, the open tickets, and the progress
-- of the reading
pub record Standing : Type 0 where
  pub written : Option (List ℕ)
  pub accounts : Accounts
  pub slots : List (Option Task)
  pub progress : Progress

abbrev pub standing_at : Option (List ℕ) → Accounts → List (Option Task) → Progress → Standing
standing_at written accounts slots progress =
    record { written = written; accounts = accounts; slots = slots; progress = progress }

abbrev pub standing : Option (List ℕ) → Accounts → Run → Standing
standing written accounts run = standing_at written accounts run.tickets run.progress

-- the first i lines are answered
pub record IsBefore (capacity : ℕ) (script : ScriptStart) (i : ℕ) (written : Option (List ℕ))
    (accounts : Accounts) (slots : List (Option Task)) : Type 0 where
  pub stands : StandsAfter capacity script.book (events_of script.bytes) i
      script.before written accounts
  pub tickets : HoldTickets capacity script.book (events_of script.bytes) i slots

abbrev pub IsAtLine : ℕ → ScriptStart → ℕ → Standing → Type 0
IsAtLine capacity script i s = IsBefore capacity script i s.written s.accounts s.slots

-- the whole lines of the front are answered, and the start of the next is kept
pub record IsAt (capacity : ℕ) (script : ScriptStart) (front : List ℕ) (s : Standing)
    : Type 0 where
  pub place : IsAtLine capacity script (line_ends front) s
  pub lines_are : s.progress.lines ≡ line_ends front
  pub start_is : s.progress.start ≡ take most_kept (unfinished_from [] front)
  pub taken_is : s.progress.taken ≡ length front

-- what stands after a fault, whatever the reader has left
abbrev pub Breaks : ℕ → ScriptStart → Standing → ScriptFault → Type 0
Breaks capacity script new e =
    (left : Option (List ℕ)) → ScriptFails capacity script left new.written new.accounts e

-- the call ends so, or a fault ends the run
pub record GoesOn {A : Type 0} (capacity : ℕ) (script : ScriptStart) (done : A → Type 0)
    (new : Standing) (r : Result A ScriptFault) : Type 0 where
  pub ended : MatchResult r done (Breaks capacity script new)

-- from every state in which the next line asks for this event, the line gets its answer
abbrev pub TakesLine : ℕ → Event → Standing → Standing → Result (Unit {0}) ScriptFault → Type 0
TakesLine capacity event old new r = (script : ScriptStart) (i : ℕ)
    → IsAtLine capacity script i old → slice_get (events_of script.bytes) i ≡ Some event
    → GoesOn capacity script (λ _. IsAtLine capacity script (suc i) new) new r

-- from every state in which a script's next bytes are these, the run takes them
abbrev pub Takes : ℕ → List ℕ → Standing → Standing → Result (Unit {0}) ScriptFault → Type 0
Takes capacity bytes old new r = (script : ScriptStart) (front rest : List ℕ)
    → script.bytes ≡ front ++ bytes ++ rest → IsAt capacity script front old
    → GoesOn capacity script (λ _. IsAt capacity script (front ++ bytes) new) new r

-- from the end of a script, its last line gets its answer
abbrev pub Finishes : ℕ → Standing → Standing → Result ℕ ScriptFault → Type 0
Finishes capacity old new r = (script : ScriptStart) → IsAt capacity script script.bytes old
    → GoesOn capacity script (λ lines. IsAnswered capacity script new.written new.accounts lines)
    new r

-- from the start of a reader's script: each line gets its answer, or a fault ends the run
abbrev pub Plays : ℕ → Reading → Writing → Standing → Standing → Result End ScriptFault → Type 0
Plays capacity r w old new result = (script : ScriptStart)
    → r.input ≡ Some script.bytes → IsAt capacity script [] old
    → ScriptEnds capacity script r w new.accounts result
