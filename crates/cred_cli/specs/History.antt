-- The history of a list of events: the names, the open numbers, the deeds, and the resulting book.
-- The capacity is the maximum number of names in the book.
use Rattle.std.specs.{List.list_any, Str.bytes_eq}
use Rattle.std.specs.Prelude.{ℕ, zero, suc, ◌==◌, ◌&&◌, if◌then◌else◌, Bool, true, false, not, Option, Some, None, is_none, List, [], ◌∷◌, ◌++◌, length, take, fold, nat_lt, slice_get}
use Rattle.cred_phc.specs.Values.{RecordValue}
use Rattle.cred_book.specs.{Accounts.Accounts, Works.name_of, Works.same, Works.seq, declared.request.Reply.Reply, declared.request.Request.Request}
use Rattle.cred_book.specs.declared.error.BookError.TheVariants.{Exists, Full, NoAccount}
use Rattle.cred_cli.specs.{declared.event.Event.Event, declared.refusal.Refusal.Refusal}
use Rattle.cred_cli.specs.declared.event.Event.TheVariants.{Account, Load, Show, Begin, Commit, Bad}
use Rattle.cred_cli.specs.declared.refusal.Refusal.TheVariants.{Book, Busy, Idle}
use Rattle.std.specs.FinMap as map

-- ---- the names

abbrev pub is_among : List (List ℕ) → List ℕ → Bool
is_among names name = list_any (bytes_eq name) names

-- a new name is added while there is room
abbrev pub names_after : ℕ → List (List ℕ) → Option Event → List (List ℕ)
names_after capacity names (Some (Account name)) =
    if is_among names name then names
    else if nat_lt (length names) capacity then names ++ name ∷ []
    else names
names_after capacity names _ = names

-- the opening book's names and, in order, the new names of the account events before place i
unfoldable pub names_at : ℕ → Accounts → List Event → ℕ → List (List ℕ)
names_at capacity book events zero = map.keys book
names_at capacity book events (suc i) =
    names_after capacity (names_at capacity book events i) (slice_get events i)

-- ---- the numbers that are open

-- an accepted begin: its place and its request
pub record Opened : Type 0 where
  pub place : ℕ
  pub request : Request

-- a begin is accepted if its number isn't open and its name is there; a commit closes its number
abbrev pub open_after : List (List ℕ) → ℕ → ℕ → Option Opened → Option Event → Option Opened
open_after names i key now (Some (Begin k request)) =
    if k == key && (is_none now && is_among names (name_of request))
    then Some (record { place = i; request = request }) else now
open_after names i key now (Some (Commit k)) = if k == key then None else now
open_after names i key now _ = now

-- the last accepted begin of the number before place i, where no commit of it stands between
unfoldable pub open_at : ℕ → Accounts → List Event → ℕ → ℕ → Option Opened
open_at capacity book events zero key = None
open_at capacity book events (suc i) key =
    open_after (names_at capacity book events i) i key (open_at capacity book events i key)
    (slice_get events i)

-- ---- what was done

pub data Deed : Type 0 where
  Admission : (name : List ℕ) → Deed
  Loading : (name : List ℕ) (stored : RecordValue) → Deed
  Whole : (request : Request) → Deed

abbrev pub after : Accounts → Option Deed → Accounts
after book None = book
after book (Some (Admission name)) = map.insert book name None
after book (Some (Loading name stored)) = map.insert book name (Some stored)
after book (Some (Whole request)) = (seq book request).1

-- the book that the deeds leave
unfoldable pub book_after : Accounts → List (Option Deed) → Accounts
book_after book deeds = fold after book deeds

abbrev pub same_entry : Option (Option RecordValue) → Option (Option RecordValue) → Bool
same_entry None None = true
same_entry (Some a) (Some b) = same a b
same_entry _ _ = false

-- after these deeds the account's record differs from the one at the begin's place
unfoldable pub is_stale : Accounts → List (Option Deed) → Opened → Bool
is_stale book past opened =
    not (same_entry (map.get (book_after book past) (name_of opened.request))
    (map.get (book_after book (take opened.place past)) (name_of opened.request)))

abbrev pub commit_deed : Accounts → List (Option Deed) → Option Opened → Option Deed
commit_deed book past None = None
commit_deed book past (Some opened) =
    if is_stale book past opened then None else Some (Whole opened.request)

-- an account event whose name is new, while there is room; a load on a name that is there; the
-- request of a commit that closes a begin and isn't stale
abbrev pub deed_of : ℕ → Accounts → List Event → ℕ → List (Option Deed) → Option Event → Option Deed
deed_of capacity book events i past (Some (Account name)) =
    if is_among (names_at capacity book events i) name then None
    else if nat_lt (length (names_at capacity book events i)) capacity then Some (Admission name)
    else None
deed_of capacity book events i past (Some (Load name stored)) =
    if is_among (names_at capacity book events i) name then Some (Loading name stored) else None
deed_of capacity book events i past (Some (Commit key)) =
    commit_deed book past (open_at capacity book events i key)
deed_of capacity book events i past _ = None

-- what was done before place i: at each place one deed or none
unfoldable pub deeds_before : ℕ → Accounts → List Event → ℕ → List (Option Deed)
deeds_before capacity book events zero = []
deeds_before capacity book events (suc i) =
    deeds_before capacity book events i
    ++ deed_of capacity book events i (deeds_before capacity book events i)
    (slice_get events i) ∷ []

abbrev pub book_at : ℕ → Accounts → List Event → ℕ → Accounts
book_at capacity book events i = book_after book (deeds_before capacity book events i)

-- ---- the answers

pub data Answer : Type 0 where
  Done : Answer
  Shown : (stored : Option RecordValue) → Answer
  Begun : Answer
  Changed : Answer
  Replied : (reply : Reply) → Answer
  Refused : (why : Refusal) → Answer

abbrev pub show_answer : Option (Option RecordValue) → Answer
show_answer None = Refused (Book NoAccount)
show_answer (Some stored) = Shown stored

-- a stale commit does nothing; any other commit is answered as the whole operation at its own
-- moment
abbrev pub commit_answer : Accounts → List (Option Deed) → Option Opened → Answer
commit_answer book past None = Refused Idle
commit_answer book past (Some opened) =
    if is_stale book past opened then Changed
    else Replied (seq (book_after book past) opened.request).0

abbrev pub answer_of : ℕ → Accounts → List Event → ℕ → Option Event → Answer
answer_of capacity book events i (Some (Account name)) =
    if is_among (names_at capacity book events i) name then Refused (Book Exists)
    else if nat_lt (length (names_at capacity book events i)) capacity then Done
    else Refused (Book Full)
answer_of capacity book events i (Some (Load name stored)) =
    if is_among (names_at capacity book events i) name then Done else Refused (Book NoAccount)
answer_of capacity book events i (Some (Show name)) =
    show_answer (map.get (book_at capacity book events i) name)
answer_of capacity book events i (Some (Begin key request)) =
    if not (is_none (open_at capacity book events i key)) then Refused Busy
    else if is_among (names_at capacity book events i) (name_of request) then Begun
    else Refused (Book NoAccount)
answer_of capacity book events i (Some (Commit key)) =
    commit_answer book (deeds_before capacity book events i) (open_at capacity book events i key)
answer_of capacity book events i (Some (Bad why)) = Refused why
answer_of capacity book events i None = Done

-- the answer to the event at place i
abbrev pub answer_at : ℕ → Accounts → List Event → ℕ → Answer
answer_at capacity book events i = answer_of capacity book events i (slice_get events i)
