-- The state after the run of a script.
use Rattle.std.specs.Prelude.{◌≡◌, ℕ, ◌+◌, ◌≤◌, true, List, ◌++◌, Option, Some, length, IfErr, IfOk, IfSome, OnOk, Result}
use Rattle.cred_book.specs.Accounts.{Accounts}
use Rattle.cred_cli.specs.{Outcome.HasCause, Outcome.IsAnswered, Outcome.ScriptFails, Outcome.longest_script, Outcome.most_calls, Prompt.IsPrompt}
use Rattle.cred_cli.specs.{Script.ScriptStart, Script.out, Script.script_start, declared.fault.ScriptFault.ScriptFault, declared.script.End.End}
use Rattle.cred_cli.specs.Watched.{GivesAsContracted, IsLogged, MayFollow, Reading, TakesAsContracted, Writing, calls_of, ended_of, failed_of, given_of, inner_of, log_of, name_of, taken_of, transcript_reading, transcript_writing}
use Rattle.cred_cli.specs.{declared.watched.Watched.Watched}

-- The end of a script: all its lines have answers, or it met a fault. At each call on the reader,
-- the lines that had come had answers.
pub record ScriptEnds (capacity : ℕ) (script : ScriptStart) (r : Reading) (w : Writing)
    (new : Accounts) (result : Result End ScriptFault) : Type 0 where
  pub done : IfOk result (λ end. IsAnswered capacity script w.now new end.lines)
  pub fault : IfErr result (ScriptFails capacity script r.left w.now new)
  pub short : OnOk result (length script.bytes ≤ longest_script)
  pub prompt : IsPrompt capacity script w.name r.log

-- the state of a run: the keeper's book, its reader and its writer
pub record RunState (R W : Type 0) : Type 0 where
  pub book : Accounts
  pub reader : Watched R
  pub writer : Watched W

abbrev pub run_state : {R W : Type 0} → Accounts → Watched R → Watched W → RunState R W
run_state book reader writer = record { book = book; reader = reader; writer = writer }

-- The result of a script over a new reader and a new writer. The contracts may tell what the reader
-- has left and what the writer holds.
pub record RunsScript {R W : Type 0} (capacity : ℕ) (remaining : R → Option (List ℕ))
    (contents : W → Option (List ℕ)) (old new : RunState R W) (result : Result End ScriptFault)
    : Type 0 where
  -- of the bytes that the contracts name: each line is answered
  pub done : IfOk result (λ end. IfSome (remaining (inner_of old.reader)) (λ bytes.
      IsAnswered capacity (script_start old.book bytes (contents (inner_of old.writer)))
      (contents (inner_of new.writer)) new.book end.lines))
  -- and these bytes are at most so many
  pub short : OnOk result
      (IfSome (remaining (inner_of old.reader)) (λ bytes. length bytes ≤ longest_script))
  -- or the state after the fault
  pub fault : IfErr result (λ fault. IfSome (remaining (inner_of old.reader)) (λ bytes.
      ScriptFails capacity (script_start old.book bytes (contents (inner_of old.writer)))
      (remaining (inner_of new.reader)) (contents (inner_of new.writer)) new.book fault))
  -- at each call on the reader, the lines that had come had answers
  pub prompt : IfSome (remaining (inner_of old.reader)) (λ bytes. IsPrompt capacity
      (script_start old.book bytes (contents (inner_of old.writer)))
      (name_of old.writer) (log_of new.reader))
  -- the number of calls on the reader is at most the number of its bytes plus one
  pub few : IfSome (remaining (inner_of old.reader))
      (λ bytes. calls_of new.reader ≤ length bytes + 1)
  -- whatever the reader and the writer are, the taken bytes are the answers to the given bytes
  pub answers : OnOk result (taken_of new.writer ≡ out capacity old.book (given_of new.reader))
  -- and the reader was at its end
  pub end : OnOk result (ended_of new.reader ≡ true)
  -- whatever else may come, `done`, `short`, `fault` and `prompt` hold of all that the reader gives
  pub transcript : (rest : List ℕ) → MayFollow rest new.reader
      → ScriptEnds capacity (script_start old.book
      (given_of new.reader ++ rest) (Some (taken_of old.writer)))
      (transcript_reading rest new.reader) (transcript_writing old.writer new.writer)
      new.book result
  -- and each call but the last gave a byte
  pub reads : calls_of new.reader ≤ length (given_of new.reader) + 1
  -- in any case: if the fault tells of a call, the call failed
  pub cause : IfErr result (HasCause (failed_of new.reader) (failed_of new.writer))
  pub calls : calls_of new.reader ≤ most_calls
  -- each call on the reader is in its log
  pub logged : IsLogged old.reader new.reader
  -- the bytes that passed are those of the contracts
  pub gives : GivesAsContracted remaining old.reader new.reader
  pub takes : TakesAsContracted contents old.writer new.writer
