-- The bytes that are read and written, on either basis.
use Rattle.std.proofs.Common.{◌≡◌, ℕ, ◌<◌, ◌≤◌, ◌+◌, ◌-◌, ◌^◌, min, List, [], ◌∷◌, ◌++◌, length, take, drop, map, Option, Some, Bool, true, false, Result, Ok, Err, OnOk, IfErr, IfOk, IfSome, subst, refl, sym, ap, ◌∙◌, ap₂, append_assoc, append-nil, arith}
use Rattle.std.proofs.{KnownBytes.Appends-nil, KnownBytes.Appends-trans, KnownBytes.Consumes-nil, KnownBytes.Consumes-trans, Math.Nat.min-eq_left, Math.Seq.drop-append_seam}
use Rattle.std.specs.Io.KnownBytes.{Consumes, IsAtEnd, Keeps}
use Rattle.cred_book.specs.Accounts.{Accounts}
use Rattle.cred_cli.specs.{Calls.Call, Feeding.standing, Outcome.HasCause, Outcome.IsAnswered, Script.out, Script.script_start, Steps.WriteFails, declared.fault.ScriptFault.ScriptFault, declared.script.End.End, declared.script.Run.Run, declared.watched.Watched.Watched}
use Rattle.cred_cli.specs.Watched.{Basis, Contract, Transcript, Fits, GivesAsContracted, IsLogged, IsNew, IsWritten, Reading, TakesAsContracted, call_on, calls_of, ended_of, failed_of, transcript_reading, given_of, held_on, inner_of, left_on, log_on, log_of, name_of, reading_on, taken_of}
use Rattle.cred_cli.proofs.{Prompts.IsCalled, Writes.taken_later}

-- ---- what a writer took

module _ {W : Type 0} (contents : W → Option (List ℕ)) where
  pub takes_more : (old mid new : Watched W) → TakesAsContracted contents old mid → TakesAsContracted contents mid new → TakesAsContracted contents old new
  takes_more old mid new (front, taken, held) (bytes, later, more) = (front ++ bytes, taken_later _ _ _ _ _ taken later, Appends-trans _ _ _ _ _ held more)

  pub unwritten : (writer : Watched W) → IsWritten contents writer writer
  unwritten writer = record { named = refl; takes = ([], sym (append-nil (taken_of writer)), Appends-nil (contents (inner_of writer))) }

  pub written_on : (old mid new : Watched W) → IsWritten contents old mid → IsWritten contents mid new → IsWritten contents old new
  written_on old mid new written more = record { named = more.named ∙ written.named; takes = takes_more old mid new written.takes more.takes }

-- a write that fails has its cause
pub write_cause : {T : Type 0} (before now : Option (List ℕ)) (bytes : List ℕ) (failed : Bool) (r : Result T ScriptFault) → IfErr r (WriteFails before now bytes failed) → IfErr r (HasCause false failed)
write_cause before now bytes failed (Ok t) fails = tt
write_cause before now bytes failed (Err e) (is_write, has_failed, front) = rw is_write has_failed

-- ---- what a reader gave

module _ {R : Type 0} (remaining : R → Option (List ℕ)) where
  pub gives_nothing : (reader : Watched R) → GivesAsContracted remaining reader reader
  gives_nothing reader = ([], sym (append-nil (given_of reader)), Consumes-nil (remaining (inner_of reader)))

  pub gives_more : (old mid new : Watched R) (bytes : List ℕ) → GivesAsContracted remaining old mid → given_of new ≡ given_of mid ++ bytes → Consumes (remaining (inner_of mid)) (remaining (inner_of new)) bytes → GivesAsContracted remaining old new
  gives_more old mid new bytes (front, given, consumed) later more = (front ++ bytes, taken_later _ _ _ _ _ given later, Consumes-trans _ _ _ _ _ consumed more)

-- ---- the calls of a reader that was new

pub new_logged : {R : Type 0} (reader : Watched R) → IsNew reader → IsLogged reader reader
new_logged reader new = record { calls = ap length new.log ∙ sym new.calls; named = refl }

pub logged_on : {R : Type 0} (old mid new : Watched R) (call : Call) → calls_of mid + 1 ≤ 2 ^ 64 - 1 → IsLogged old mid → log_of new ≡ call ∷ log_of mid → name_of new ≡ name_of mid → calls_of new ≡ min (calls_of mid + 1) (2 ^ 64 - 1) → IsLogged old new
logged_on old mid new call small before logged named calls = record {
  calls = omega (arith, ap length logged, before.calls, calls ∙ min-eq_left small);
  named = named ∙ before.named;
}

-- ---- what a reader has left

module _ {R : Type 0} (remaining : R → Option (List ℕ)) (old new : Watched R) where
  -- what fits a reader fitted it before it gave these
  pub fits_before : (basis : Basis) (bytes : List ℕ) → given_of new ≡ given_of old ++ bytes → ended_of old ≡ false → Fits basis new → Fits basis old
  fits_before Contract bytes more open_ fits = tt
  fits_before (Transcript all) bytes more open_ (rest, cut, last) =
      (bytes ++ rest, cut ∙ ap (λ xs. xs ++ rest) more ∙ append_assoc (given_of old) bytes rest, λ e. cc (sym open_ ∙ e))

  pub gave_on : (basis : Basis) (n : ℕ) (buf : List ℕ) → Consumes (remaining (inner_of old)) (remaining (inner_of new)) (take n buf) × (n ≡ 0 → 0 < length buf → IsAtEnd (remaining (inner_of new))) →
      given_of new ≡ given_of old ++ take n buf → (n ≡ 0 → 0 < length buf → ended_of new ≡ true) → Fits basis new →
      Consumes (left_on basis remaining old) (left_on basis remaining new) (take n buf) × (n ≡ 0 → 0 < length buf → IsAtEnd (left_on basis remaining new))
  gave_on Contract n buf named passed end fits = named
  gave_on (Transcript all) n buf named passed end (rest, cut, last) =
      let later : drop (length (given_of new)) all ≡ rest = ap (drop (length (given_of new))) cut ∙ drop-append_seam (given_of new) rest in
      let sooner : drop (length (given_of old)) all ≡ take n buf ++ rest =
      ap (drop (length (given_of old))) (cut ∙ ap (λ xs. xs ++ rest) passed ∙ append_assoc (given_of old) (take n buf) rest) ∙ drop-append_seam (given_of old) (take n buf ++ rest) in
      (sooner ∙ ap (λ xs. take n buf ++ xs) (sym later), λ none room. later ∙ last (end none room))

  pub kept_on : (basis : Basis) → Keeps (remaining (inner_of old)) (remaining (inner_of new)) → given_of new ≡ given_of old → Keeps (left_on basis remaining old) (left_on basis remaining new)
  kept_on Contract named passed = named
  kept_on (Transcript all) named passed = ap (λ xs. drop (length xs) all) passed

-- ---- what stood as a reader was called

pub none_logged : (basis : Basis) (calls : List Call) → calls ≡ [] → log_on basis calls ≡ []
none_logged Contract calls none = none
none_logged (Transcript all) calls none = ap (map (call_on (Transcript all))) none

-- the call as it is logged
abbrev pub call_of : {R W : Type 0} → (R → Option (List ℕ)) → (W → Option (List ℕ)) → Watched R → Watched W → Accounts → Call
call_of remaining contents reader writer accounts = record {
  left = remaining (inner_of reader);
  given = given_of reader;
  beside = name_of writer;
  written = contents (inner_of writer);
  taken = taken_of writer;
  accounts = accounts;
}

-- what a call found is seen in the basis too
pub called_on : {R W : Type 0} (remaining : R → Option (List ℕ)) (contents : W → Option (List ℕ)) (reader : Watched R) (writer : Watched W) (accounts : Accounts) (run : Run) (name : ℕ) (basis : Basis) (calls : List Call) → name_of writer ≡ name →
    calls ≡ call_of remaining contents reader writer accounts ∷ log_of reader → IsCalled (left_on basis remaining reader) name (standing (held_on basis contents writer) accounts run) (log_on basis (log_of reader)) (log_on basis calls)
called_on remaining contents reader writer accounts run name Contract calls named more =
    record { call = call_of remaining contents reader writer accounts; are = more; left_is = refl; beside_is = named; written_is = refl; accounts_are = refl }
called_on remaining contents reader writer accounts run name (Transcript all) calls named more = record {
  call = call_on (Transcript all) (call_of remaining contents reader writer accounts);
  are = ap (map (call_on (Transcript all))) more;
  left_is = refl;
  beside_is = named;
  written_is = refl;
  accounts_are = refl;
}

-- ---- a new reader, whatever it is

module _ {R : Type 0} (remaining : R → Option (List ℕ)) (old new : Watched R) (rest all : List ℕ) (fresh : given_of old ≡ []) (cut : all ≡ given_of new ++ rest) where
  pub as_transcript_reading : reading_on (Transcript all) remaining old new ≡ transcript_reading rest new
  as_transcript_reading =
      let had : drop (length (given_of old)) all ≡ given_of new ++ rest = ap (λ xs. drop (length xs) all) fresh ∙ cut in
      let left : drop (length (given_of new)) all ≡ rest = ap (drop (length (given_of new))) cut ∙ drop-append_seam (given_of new) rest in
      ap₂ (λ had left. record { input = Some had; left = Some left; failed = failed_of new; log = log_on (Transcript all) (log_of new) }) had left
      ∙ ap (λ every. record { input = Some (given_of new ++ rest); left = Some rest; failed = failed_of new; log = log_on (Transcript every) (log_of new) }) cut

  -- so what holds of the reader on that basis holds of what it gave
  pub as_passed : (P : Reading → List ℕ → Type 0) → IfSome (left_on (Transcript all) remaining old) (P (reading_on (Transcript all) remaining old new)) → P (transcript_reading rest new) all
  as_passed P told =
      let at_all : P (reading_on (Transcript all) remaining old new) all = subst (λ known. IfSome known (P (reading_on (Transcript all) remaining old new))) (ap (λ xs. Some (drop (length xs) all)) fresh) told in
      subst (λ r. P r all) as_transcript_reading at_all

-- what came is all, if nothing else may come
pub alone : {R : Type 0} (reader : Watched R) → Fits (Transcript (given_of reader)) reader
alone reader = ([], sym (append-nil (given_of reader)), λ e. refl)

-- a script whose lines all have answers: the taken bytes are these answers
pub answers_of : {E : Type 0} (capacity : ℕ) (book accounts : Accounts) (given before now : List ℕ) (result : Result End E) → before ≡ [] →
    IfOk result (λ end. IsAnswered capacity (script_start book given (Some before)) (Some now) accounts end.lines) → OnOk result (now ≡ out capacity book given)
answers_of capacity book accounts given before now (Ok end) fresh done = done.written ∙ ap (λ xs. xs ++ out capacity book given) fresh
answers_of capacity book accounts given before now (Err e) fresh done = tt
