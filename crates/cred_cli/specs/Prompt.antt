-- The state at each call on the reader of a script.
use Rattle.std.specs.Prelude.{◌≡◌, ℕ, ◌<◌, Option, Some, None, List, [], ◌∷◌, length}
use Rattle.std.specs.Io.KnownBytes.{Consumes}
use Rattle.cred_cli.specs.{Calls.Call, Outcome.StandsAfter, Script.ScriptStart, Script.events_of, Script.line_ends}

-- At the call, exactly the whole lines of the bytes that had come were done and answered. The
-- keeper's book is the one after these lines, and the writer of this name holds their answers.
pub record IsPromptAt (capacity : ℕ) (script : ScriptStart) (name : ℕ) (call : Call) : Type 0 where
  pub front : List ℕ
  pub came : Consumes (Some script.bytes) call.left front
  pub beside : call.beside ≡ name
  pub stands : StandsAfter capacity script.book (events_of script.bytes) (line_ends front)
      script.before call.written call.accounts

-- how many bytes are left, as far as that is known
abbrev pub left_length : Option (List ℕ) → ℕ
left_length None = 0
left_length (Some bytes) = length bytes

-- fewer bytes are left than at the last of these calls, if there was one, so that call gave a byte
abbrev pub HasFewer : Option (List ℕ) → List Call → Type 0
HasFewer left [] = Unit {0}
HasFewer left (last ∷ earlier) = left_length left < left_length last.left

-- every call found this state, and each call but the last gave a byte; the last call stands first
abbrev pub IsPrompt : ℕ → ScriptStart → ℕ → List Call → Type 0
IsPrompt capacity script name [] = Unit {0}
IsPrompt capacity script name (call ∷ earlier) = IsPromptAt capacity script name call
    × HasFewer call.left earlier × IsPrompt capacity script name earlier
