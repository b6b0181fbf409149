-- What proofs see of a watched reader or writer.
use Rattle.std.specs.Prelude.{◌≡◌, ℕ, Bool, true, false, List, [], ◌++◌, Option, Some, None, Result, MatchResult, drop, length, map, take}
use Rattle.std.specs.Io.KnownBytes.{Appends, Consumes}
use Rattle.cred_cli.specs.{Calls.Call, declared.watched.Watched.Watched}

abbrev pub inner_of : {X : Type 0} → Watched X → X
inner_of watched = watched.inner

abbrev pub calls_of : {X : Type 0} → Watched X → ℕ
calls_of watched = watched.calls

abbrev pub failed_of : {X : Type 0} → Watched X → Bool
failed_of watched = watched.failed

-- a call gave no byte though there was room for one: the reader was at its end
abbrev pub ended_of : {X : Type 0} → Watched X → Bool
ended_of watched = watched.ended

-- the transcript: all the bytes that calls on the reader gave, whatever the reader is
abbrev pub given_of : {X : Type 0} → Watched X → List ℕ
given_of watched = watched.past.given

-- all the bytes that calls on the writer took, whatever the writer is
abbrev pub taken_of : {X : Type 0} → Watched X → List ℕ
taken_of watched = watched.past.taken

-- the logged calls on the reader, the last one first
abbrev pub log_of : {X : Type 0} → Watched X → List Call
log_of watched = watched.past.calls

-- the name of a reader or a writer in a log; no clause says which name that is
abbrev pub name_of : {X : Type 0} → Watched X → ℕ
name_of watched = watched.past.name

-- there was no call yet
pub record IsNew {X : Type 0} (watched : Watched X) : Type 0 where
  pub calls : calls_of watched ≡ 0
  pub failed : failed_of watched ≡ false
  pub ended : ended_of watched ≡ false
  pub given : given_of watched ≡ []
  pub taken : taken_of watched ≡ []
  pub log : log_of watched ≡ []

-- each call on the reader is in its log, as the reader was new before; its past is still its own,
-- since a proof can show of no other that it has this name
pub record IsLogged {X : Type 0} (old new : Watched X) : Type 0 where
  pub calls : length (log_of new) ≡ calls_of new
  pub named : name_of new ≡ name_of old

-- at `Ok(n)` the first n bytes of the buffer passed, and none at `Err`
abbrev pub Passes : {E : Type 0} → List ℕ → List ℕ → Result ℕ E → List ℕ → Type 0
Passes old new result buf = MatchResult result (λ n. new ≡ old ++ take n buf) (λ _. new ≡ old)

-- The bytes that the reader gave in between are those that its contract says were taken off.
abbrev pub GivesAsContracted : {R : Type 0} → (R → Option (List ℕ)) → Watched R → Watched R → Type 0
GivesAsContracted remaining old new = (bytes : List ℕ) × (given_of new ≡ given_of old ++ bytes)
    × Consumes (remaining (inner_of old)) (remaining (inner_of new)) bytes

-- The bytes that the writer took in between are those that its contract adds to what it holds.
abbrev pub TakesAsContracted : {W : Type 0} → (W → Option (List ℕ)) → Watched W → Watched W → Type 0
TakesAsContracted contents old new = (bytes : List ℕ) × (taken_of new ≡ taken_of old ++ bytes)
    × Appends (contents (inner_of old)) (contents (inner_of new)) bytes

-- a writer on which nothing but writes came in between
pub record IsWritten {W : Type 0} (contents : W → Option (List ℕ)) (old new : Watched W)
    : Type 0 where
  pub named : name_of new ≡ name_of old
  pub takes : TakesAsContracted contents old new

-- ---- the basis on which the bytes are known

-- The contracts of the reader and the writer, if these name the bytes; or the transcript of the
-- calls on any reader, which gives these bytes in all.
pub data Basis : Type 0 where
  Contract : Basis
  Transcript : List ℕ → Basis

-- what a reader has left
abbrev pub left_on : Basis → {R : Type 0} → (R → Option (List ℕ)) → Watched R → Option (List ℕ)
left_on Contract remaining reader = remaining (inner_of reader)
left_on (Transcript all) remaining reader = Some (drop (length (given_of reader)) all)

-- what a writer holds
abbrev pub held_on : Basis → {W : Type 0} → (W → Option (List ℕ)) → Watched W → Option (List ℕ)
held_on Contract contents writer = contents (inner_of writer)
held_on (Transcript all) contents writer = Some (taken_of writer)

-- the state at a call on a reader
abbrev pub call_on : Basis → Call → Call
call_on Contract call = call
call_on (Transcript all) call =
    record call { left = Some (drop (length call.given) all); written = Some call.taken }

abbrev pub log_on : Basis → List Call → List Call
log_on Contract calls = calls
log_on (Transcript all) calls = map (call_on (Transcript all)) calls

-- a reader may give these bytes later: none if the reader was at its end
abbrev pub MayFollow : List ℕ → {R : Type 0} → Watched R → Type 0
MayFollow rest reader = ended_of reader ≡ true → rest ≡ []

-- the bytes that a reader gave are a front of those that it gives in all
abbrev pub Fits : Basis → {R : Type 0} → Watched R → Type 0
Fits Contract reader = Unit {0}
Fits (Transcript all) reader =
    (rest : List ℕ) × (all ≡ given_of reader ++ rest) × MayFollow rest reader

-- ---- a reader and a writer before and after a call

-- the bytes that a reader had and has left, whether a call on the reader has failed, and the logged
-- calls
pub record Reading : Type 0 where
  pub input : Option (List ℕ)
  pub left : Option (List ℕ)
  pub failed : Bool
  pub log : List Call

abbrev pub reading_on : Basis → {R : Type 0} → (R → Option (List ℕ)) → Watched R → Watched R → Reading
reading_on basis remaining old new = record {
  input = left_on basis remaining old;
  left = left_on basis remaining new;
  failed = failed_of new;
  log = log_on basis (log_of new);
}

-- by the reader's contract
abbrev pub reading : {R : Type 0} → (R → Option (List ℕ)) → Watched R → Watched R → Reading
reading remaining old new = reading_on Contract remaining old new

-- by the transcript of a new reader, which may give these bytes later
abbrev pub transcript_reading : List ℕ → {R : Type 0} → Watched R → Reading
transcript_reading rest new = record {
  input = Some (given_of new ++ rest);
  left = Some rest;
  failed = failed_of new;
  log = log_on (Transcript (given_of new ++ rest)) (log_of new);
}

-- the bytes that a writer held and holds now, whether a call on the writer has failed, and its name
pub record Writing : Type 0 where
  pub before : Option (List ℕ)
  pub now : Option (List ℕ)
  pub failed : Bool
  pub name : ℕ

abbrev pub writing_on : Basis → {W : Type 0} → (W → Option (List ℕ)) → Watched W → Watched W → Writing
writing_on basis contents old new = record {
  before = held_on basis contents old;
  now = held_on basis contents new;
  failed = failed_of new;
  name = name_of old;
}

-- by the writer's contract
abbrev pub writing : {W : Type 0} → (W → Option (List ℕ)) → Watched W → Watched W → Writing
writing contents old new = writing_on Contract contents old new

-- by the writer's transcript
abbrev pub transcript_writing : {W : Type 0} → Watched W → Watched W → Writing
transcript_writing old new = writing_on (Transcript []) (λ _. None) old new
