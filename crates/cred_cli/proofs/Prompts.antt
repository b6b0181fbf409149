-- The states that a run's calls on its reader find, and the number of these calls.
use Rattle.std.proofs.Common.{◌≡◌, ℕ, ◌+◌, ◌≤◌, ◌<◌, arith, List, [], ◌∷◌, ◌++◌, length, Option, Some, None, IfSome, Result, Ok, Err, append-nil, refl, sym, ap, ◌∙◌}
use Rattle.std.proofs.lemmas.List.{append_cancel_right, length-append}
use Rattle.std.specs.Io.KnownBytes.{Consumes}
use Rattle.cred_book.specs.Accounts.{Accounts}
use Rattle.cred_cli.specs.{Feeding.Finishes, Feeding.GoesOn, Feeding.IsAt, Feeding.Standing, Script.ScriptStart, Script.answers_before, Script.events_of, Script.line_ends, Script.script_start, Scripts.ScriptEnds}
use Rattle.cred_cli.specs.{Calls.Call, History.book_at, Outcome.IsAnswered, Prompt.HasFewer, Prompt.IsPrompt, Prompt.IsPromptAt, Prompt.left_length, Watched.Reading, Watched.Writing, declared.fault.ScriptFault.ScriptFault}
use Rattle.cred_cli.proofs.Readings.{HasCome, cut_behind, if_known}

-- ---- while a script is read

-- a script is read so far, and each call on its reader was prompt
pub record IsReadTo (capacity : ℕ) (script : ScriptStart) (name : ℕ) (left : Option (List ℕ)) (s : Standing) (calls : List Call) : Type 0 where
  pub front : List ℕ
  pub rest : List ℕ
  pub cut : script.bytes ≡ front ++ rest
  pub left_is : left ≡ Some rest
  pub at : IsAt capacity script front s
  pub prompt : IsPrompt capacity script name calls
  pub fewer : HasFewer (Some rest) calls

-- the reader was not called yet
pub read_to_start : (capacity : ℕ) (script : ScriptStart) (name : ℕ) (left : Option (List ℕ)) (s : Standing) (calls : List Call) → left ≡ Some script.bytes → IsAt capacity script [] s → calls ≡ [] → IsReadTo capacity script name left s calls
read_to_start capacity script name left s calls known at none = record {
  front = [];
  rest = script.bytes;
  cut = refl;
  left_is = known;
  at = at;
  prompt = rw none tt;
  fewer = rw none tt;
}

-- one more call found this state
pub record IsCalled (left : Option (List ℕ)) (name : ℕ) (s : Standing) (earlier calls : List Call) : Type 0 where
  pub call : Call
  pub are : calls ≡ call ∷ earlier
  pub left_is : call.left ≡ left
  pub beside_is : call.beside ≡ name
  pub written_is : call.written ≡ s.written
  pub accounts_are : call.accounts ≡ s.accounts

module _ {capacity : ℕ} {script : ScriptStart} {name : ℕ} {left : Option (List ℕ)} {s : Standing} {earlier calls : List Call} (read : IsReadTo capacity script name left s earlier) (called : IsCalled left name s earlier calls) where
  -- the call is prompt, whatever its result
  pub prompt_call : IsPrompt capacity script name calls
  prompt_call = rw called.are (
    record { front = read.front; came = rw (called.left_is, read.left_is) read.cut; beside = called.beside_is; stands = rw (called.written_is, called.accounts_are) read.at.place.stands },
    rw (called.left_is, read.left_is) read.fewer,
    read.prompt,
  )

  -- if the call gave bytes that the run takes, the script is read to the place behind them
  pub read_on : {now : Option (List ℕ)} {new : Standing} (bytes : List ℕ) → HasCome read.rest bytes now → 0 < length bytes
      → GoesOn {A = Unit {0}} capacity script (λ _. IsAt capacity script (read.front ++ bytes) new) new (Ok tt) → IsReadTo capacity script name now new calls
  read_on bytes more some fed = record {
    front = read.front ++ bytes;
    rest = more.left;
    cut = cut_behind script.bytes read.front read.rest bytes more.left read.cut more.cut;
    left_is = more.now_is;
    at = fed.ended;
    prompt = prompt_call;
    fewer = rw (called.are, called.left_is, read.left_is) (omega (arith, some, ap length more.cut, length-append bytes more.left));
  }

  -- the call ends in a fault
  pub run_breaks : {A : Type 0} {new : Standing} {done : A → Type 0} (r : Reading) (w : Writing) (e : ScriptFault) → r.log ≡ calls → w.name ≡ name → w.now ≡ new.written
      → GoesOn capacity script done new (Err e) → ScriptEnds capacity script r w new.accounts (Err e)
  run_breaks r w e log named now broken = record { done = tt; fault = rw now (broken.ended r.left); short = tt; prompt = rw (named, log) prompt_call }

-- the end was met, and the last line is answered
pub run_ends : {capacity : ℕ} {script : ScriptStart} {name : ℕ} {left : Option (List ℕ)} {s new : Standing} {earlier : List Call} {r : Result ℕ ScriptFault} (read : IsReadTo capacity script name left s earlier)
    → read.rest ≡ [] → Finishes capacity s new r → GoesOn capacity script (λ lines. IsAnswered capacity script new.written new.accounts lines) new r
run_ends {script = script} read none finishes =
    let whole : read.front ≡ script.bytes = sym (rw (none, append-nil) at read.cut) in
    finishes script (rw whole at read.at)

-- there was no call, and so none too early
pub no_calls : (capacity : ℕ) (book : Accounts) (name : ℕ) (before known : Option (List ℕ)) (calls : List Call) → calls ≡ [] → IfSome known (λ bytes. IsPrompt capacity (script_start book bytes before) name calls)
no_calls capacity book name before known calls none =
    if_known known (λ bytes. IsPrompt capacity (script_start book bytes before) name calls) (λ all is. rw none tt)

-- ---- of what is prompt

-- the bytes that had come are those that are not left
pub prompt-stands : (capacity : ℕ) (book accounts : Accounts) (front rest before now : List ℕ) (name : ℕ) (call : Call) → call.left ≡ Some rest → call.written ≡ Some now → call.accounts ≡ accounts
    → IsPromptAt capacity (script_start book (front ++ rest) (Some before)) name call
    → (now ≡ before ++ answers_before capacity book (events_of (front ++ rest)) (line_ends front)) × (accounts ≡ book_at capacity book (events_of (front ++ rest)) (line_ends front))
prompt-stands capacity book accounts front rest before now name call left written kept prompt =
    let same : front ≡ prompt.front = append_cancel_right front prompt.front rest (rw left at prompt.came) in
    let stood = rw (written, kept) at prompt.stands in (
      stood.written ∙ ap (λ xs. before ++ answers_before capacity book (events_of (front ++ rest)) (line_ends xs)) (sym same),
      stood.accounts_are ∙ ap (λ xs. book_at capacity book (events_of (front ++ rest)) (line_ends xs)) (sym same),
    )

-- no more is left than all
left_within : (bytes front : List ℕ) (left : Option (List ℕ)) → Consumes (Some bytes) left front → left_length left ≤ length bytes
left_within bytes front None consumed = absurd consumed
left_within bytes front (Some rest) consumed = omega (arith, ap length consumed, length-append front rest)

fewer_calls : (capacity : ℕ) (script : ScriptStart) (name : ℕ) (calls : List Call) (left : Option (List ℕ)) → IsPrompt capacity script name calls → HasFewer left calls → left_length left ≤ length script.bytes
    → length calls + left_length left ≤ length script.bytes
fewer_calls capacity script name [] left prompt fewer within = omega (arith, within)
fewer_calls capacity script name (call ∷ earlier) left (at, before, prompt) fewer within =
    omega (arith, fewer, fewer_calls capacity script name earlier call.left prompt before (left_within script.bytes at.front call.left at.came))

pub length-prompt : (capacity : ℕ) (script : ScriptStart) (name : ℕ) (calls : List Call) → IsPrompt capacity script name calls → length calls ≤ length script.bytes + 1
length-prompt capacity script name [] prompt = omega arith
length-prompt capacity script name (call ∷ earlier) (at, before, prompt) =
    omega (arith, fewer_calls capacity script name earlier call.left prompt before (left_within script.bytes at.front call.left at.came))
