-- What the program does for its words.
use Rattle.std.specs.{Io.KnownBytes.Appends, Io.KnownBytes.Keeps, Option.ok_or, Str.bytes_eq}
use Rattle.std.specs.Prelude.{◌≡◌, ◌⊎◌, ℕ, ◌≤◌, Bool, true, false, if◌then◌else◌, Option, Some, None, IfSome, Result, Ok, List, [], ◌∷◌, ◌++◌, length, codes, MatchBool, MatchResult}
use Rattle.clap.specs.Words.{Row, Text, first_of}
use Rattle.cred_phc.specs.{Base64.bytes_of, Reading.◌>>=◌, Values.RecordValue, Values.SettingValue}
use Rattle.cred_book.specs.{Accounts.Accounts, Accounts.book_capacity, Works.new_record, Works.right}
use Rattle.cred_cli.specs.{Events.record_field, Events.setting_field, History.Shown, declared.exit_status.ExitStatus.ExitStatus}
use Rattle.cred_cli.specs.{Outcome.FrontWritten, Outcome.HasCause, Outcome.ScriptFails, Outcome.longest_script, Prompt.IsPrompt}
use Rattle.cred_cli.specs.{Script.out, Script.script_start, Statuses.status_number, Statuses.status_of, Texts.line_of, Watched.Reading, Watched.Writing}
use Rattle.cred_cli.specs.declared.exit_status.ExitStatus.TheVariants.{Done, Refused, Failed, OutOfMemory, No}
use Rattle.cred_cli.specs.{declared.fault.ScriptFault.ScriptFault, declared.refusal.Refusal.Refusal, declared.refusal.Refusal.TheVariants.Password}
use Rattle.std.specs.FinMap as map

-- at each call on the reader of a script on an empty book, the lines that had come had answers
abbrev pub RunsPrompt : Reading → Writing → Type 0
RunsPrompt r w = IfSome r.input (λ bytes. IsPrompt book_capacity
    (script_start map.empty bytes w.before) w.name r.log)

-- all lines of a script on an empty book have answers
pub record RunsWhole (r : Reading) (w : Writing) : Type 0 where
  pub written : IfSome r.input (λ bytes. Appends w.before w.now (out book_capacity map.empty bytes))
  pub short : IfSome r.input (λ bytes. length bytes ≤ longest_script)
  pub prompt : RunsPrompt r w

-- or the script met a fault, and its book is gone
pub record RunFails (r : Reading) (w : Writing) (fault : ScriptFault) : Type 0 where
  pub stands : IfSome r.input (λ bytes. (accounts : Accounts)
      × ScriptFails book_capacity (script_start map.empty bytes w.before) r.left w.now accounts
      fault)
  pub cause : HasCause r.failed w.failed fault
  pub prompt : RunsPrompt r w

-- `run`
abbrev pub Runs : Reading → Writing → ℕ → Type 0
Runs r w status = ((status ≡ status_number Done) × RunsWhole r w)
    ⊎ ((fault : ScriptFault) × (status ≡ status_number (status_of fault)) × RunFails r w fault)

-- ---- `hash` and `check`

-- a missing password is the empty one; any other has 1 to 256 bytes in base64
abbrev pub password_word : Option Text → Result (List ℕ) Refusal
password_word None = Ok []
password_word (Some text) = ok_or (bytes_of 1 256 text) Password

-- the input of `hash`; the setting is judged before the password
abbrev pub to_hash : Text → Option Text → Result (SettingValue × List ℕ) Refusal
to_hash setting pw =
    setting_field setting >>= λ s. password_word pw >>= λ password. Ok (s, password)

-- the input of `check`; the record is judged before the password
abbrev pub to_check : Text → Option Text → Result (RecordValue × List ℕ) Refusal
to_check stored pw = record_field stored >>= λ r. password_word pw >>= λ password. Ok (r, password)

abbrev pub record_line : RecordValue → List ℕ
record_line stored = line_of (Shown (Some stored))

-- the line was written whole, or the writer failed after a proper prefix of it
abbrev pub Prints : List ℕ → ExitStatus → Writing → ℕ → Type 0
Prints line good w status = ((status ≡ status_number good) × Appends w.before w.now line)
    ⊎ ((status ≡ status_number Failed) × (w.failed ≡ true) × FrontWritten w.before w.now line)

-- nothing was written
abbrev pub Ends : ExitStatus → Writing → ℕ → Type 0
Ends why w status = (status ≡ status_number why) × Keeps w.before w.now

abbrev pub Hashes : Option Text → Option Text → Writing → ℕ → Type 0
Hashes None pw w status = Ends Refused w status
Hashes (Some setting) pw w status = MatchResult (to_hash setting pw)
    (λ values. Prints (record_line (new_record values.0 values.1)) Done w status
    ⊎ Ends OutOfMemory w status)
    (λ why. Ends Refused w status)

-- the answer and its status
abbrev pub verdict : Bool → List ℕ × ExitStatus
verdict is_right = if is_right then (codes "yes" ++ 10 ∷ [], Done) else (codes "no" ++ 10 ∷ [], No)

abbrev pub Checks : Option Text → Option Text → Writing → ℕ → Type 0
Checks None pw w status = Ends Refused w status
Checks (Some stored) pw w status = MatchResult (to_check stored pw)
    (λ values. Prints (verdict (right values.0 values.1)).0 (verdict (right values.0 values.1)).1 w
    status ⊎ Ends OutOfMemory w status)
    (λ why. Ends Refused w status)

-- ---- all of it

-- the words ask for a script to be run
abbrev pub is_run : Option (Text × List Row) → Bool
is_run None = false
is_run (Some (word, rows)) = bytes_eq word (codes "run")

-- what the program does for a subcommand and its values
abbrev pub Acts : Option (Text × List Row) → Reading → Writing → ℕ → Type 0
Acts None r w status = Ends Refused w status
Acts (Some (word, rows)) r w status = MatchBool (bytes_eq word (codes "run")) (Runs r w status)
    (MatchBool (bytes_eq word (codes "hash"))
    (Hashes (first_of (codes "setting") rows) (first_of (codes "password") rows) w status)
    (Checks (first_of (codes "record") rows) (first_of (codes "password") rows) w status))
