-- The end of the program.
use Rattle.std.proofs.{Common.◌≡◌, Common.ℕ, Common.◌≤◌, Common.List, Common.[], Common.length, Common.Option, Common.Some, Common.None, Common.Bool, Common.Result, Common.Ok, Common.Err, Common.OnOk, Common.IfOk, Common.IfErr, Common.IfSome, Common.inl, Common.inr, Common.refl, lemmas.Option.IfSome_then}
use Rattle.std.specs.FinMap as map
use Rattle.cred_book.specs.Accounts.{Accounts, book_capacity}
use Rattle.cred_cli.specs.{declared.fault.ScriptFault.ScriptFault, declared.fault.ScriptFault.TheVariants.Memory, Statuses.status_number, Statuses.status_of, Script.events_of, Script.script_start, Scripts.ScriptEnds}
use Rattle.cred_cli.specs.{Commands.Runs, declared.exit_status.ExitStatus.TheVariants.Done, declared.script.End.End, Calls.Call, Watched.Reading, Watched.Writing, Outcome.HasCause, Outcome.IsAnswered, Outcome.ScriptFails, Outcome.longest_script, Prompt.IsPrompt}
use Rattle.cred_cli.proofs.{Prompts.no_calls, Readings.if_known, Readings.nothing_done}

-- there was no memory to begin a script with
pub unbegun : (capacity : ℕ) (book : Accounts) (before : Option (List ℕ)) (failed : Bool) (name : ℕ) (r : Reading) → r.log ≡ [] →
    IfSome r.input (λ bytes. ScriptEnds capacity (script_start book bytes before) r (record { before = before; now = before; failed = failed; name = name }) book (Err Memory))
unbegun capacity book before failed name r unread = if_known r.input _ (λ all known. record {
  done = tt;
  fault = (0, inr refl, nothing_done capacity book (events_of all) before);
  short = tt;
  prompt = rw unread tt;
})

-- the end of a script is told of each part, as far as the part's bytes are known
pub ends_in_parts : (capacity : ℕ) (r : Reading) (w : Writing) (old new : Accounts) (input : Option (List ℕ)) (result : Result End ScriptFault) → IfSome input (λ bytes. ScriptEnds capacity (script_start old bytes w.before) r w new result) →
    IfOk result (λ end. IfSome input (λ bytes. IsAnswered capacity (script_start old bytes w.before) w.now new end.lines))
    × OnOk result (IfSome input (λ bytes. length bytes ≤ longest_script))
    × IfErr result (λ fault. IfSome input (λ bytes. ScriptFails capacity (script_start old bytes w.before) r.left w.now new fault))
    × IfSome input (λ bytes. IsPrompt capacity (script_start old bytes w.before) w.name r.log)
ends_in_parts capacity r w old new None (Ok end) ended = (tt, tt, tt, tt)
ends_in_parts capacity r w old new None (Err e) ended = (tt, tt, tt, tt)
ends_in_parts capacity r w old new (Some bytes) (Ok end) ended = (ended.done, ended.short, tt, ended.prompt)
ends_in_parts capacity r w old new (Some bytes) (Err e) ended = (tt, tt, ended.fault, ended.prompt)

-- there was no memory to begin with
pub no_memory : (r : Reading) (before : Option (List ℕ)) (failed : Bool) (name status : ℕ) → r.log ≡ [] → status ≡ status_number (status_of Memory) → Runs r (record { before = before; now = before; failed = failed; name = name }) status
no_memory r before failed name status unread is = inr (
  Memory,
  is,
  record {
    stands = if_known r.input _ (λ bs known. (map.empty, (0, inr refl, nothing_done book_capacity map.empty (events_of bs) before)));
    cause = tt;
    prompt = no_calls book_capacity map.empty name before r.input r.log unread;
  },
)

-- the script met a fault
pub run_fails : (book : Accounts) (r : Reading) (w : Writing) (accounts : Accounts) (fault : ScriptFault) (status : ℕ) →
    book ≡ map.empty → status ≡ status_number (status_of fault) → IfSome r.input (λ bs. ScriptFails book_capacity (script_start book bs w.before) r.left w.now accounts fault) → HasCause r.failed w.failed fault →
    IfSome r.input (λ bs. IsPrompt book_capacity (script_start book bs w.before) w.name r.log) → Runs r w status
run_fails book r w accounts fault status empty is fails cause prompt =
    inr (fault, is, record { stands = IfSome_then r.input fails (λ bs h. (accounts, rw empty at h)); cause = cause; prompt = rw empty at prompt })

-- the script was answered whole
pub runs_whole : (book new : Accounts) (bytes : List ℕ) (left : Option (List ℕ)) (failed : Bool) (log : List Call) (w : Writing) (end_ : End) (status : ℕ) → book ≡ map.empty → status ≡ status_number Done →
    ScriptEnds book_capacity (script_start book bytes w.before) (record { input = Some bytes; left = left; failed = failed; log = log }) w new (Ok end_) → Runs (record { input = Some bytes; left = left; failed = failed; log = log }) w status
runs_whole book new bytes left failed log w end_ status empty is ended =
    inl (is, record { written = rw empty at ended.done.written; short = ended.short; prompt = rw empty at ended.prompt })
