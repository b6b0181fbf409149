-- The effect of a desk's call for a session that settles work or adds an entry of its own: an
-- admission, a load or a deletion. A writer may refuse the entry, and the call then answers an
-- error.
use Rattle.std.specs.Prelude.{◌≡◌, ◌≢◌, ◌+◌, ℕ, Bool, true, false, List, ◌∷◌, [], ◌++◌, None, Result, Some, Ok, Err}
use mathlib.Core.List.{IsPrefix}
use Rattle.std.specs.FinMap as map
use Rattle.cred_book.specs.{Accounts.Accounts, Calls.Admits, Calls.Loads, Works.Task, declared.error.BookError.BookError}
use Rattle.cred_book.specs.declared.error.BookError.TheVariants as error
use Rattle.cred_book.specs.declared.request.Reply.{Reply}
use Rattle.cred_desk.specs.Commits.{entry_of, list_after, reply_of, weight}
use Rattle.cred_desk.specs.Histories.{IsAdmitted, IsDeleted, IsListed, IsLoaded, after, deletion, entry}
use Rattle.cred_desk.specs.{Naming.Naming, Standing.Standing, Standing.IsUncounted, declared.entry.AccountState.AccountState}
use Rattle.cred_desk.specs.declared.entry.AccountState.TheVariants as state
use Rattle.cred_desk.specs.{declared.entry.Entry.Entry, declared.writer.KeepError.KeepError}
use Rattle.cred_desk.specs.declared.writer.KeepError.TheVariants.{Book, Writer}

-- the error of a book: if a writer refuses an entry, the book would have done the change
abbrev pub refusal_of : {E : Type 0} → KeepError E → BookError
refusal_of (Book e) = e
refusal_of (Writer e) = error.Memory

-- the session knows this list, which begins with the list that it knew before
abbrev pub IsAt : Bool → Accounts → Standing → Standing → Type 0
IsAt loads opening old new = IsListed loads opening new.known × IsPrefix old.known new.known

-- a settle is a commit at a list that begins with the known one, and is counted if it is a change.
-- If a change that was due there is refused, the session knows that list, and nothing is counted
abbrev pub Settles : {E : Type 0} → Bool → Accounts → Standing → Standing → Task
    → Result (Reply × List Entry) E → Type 0
Settles loads opening old new work (Ok answer) =
    (list : List Entry) × IsListed loads opening list × IsPrefix old.known list
    × (answer.0 ≡ reply_of (after opening list) work)
    × (answer.1 ≡ list_after list (entry_of (after opening list) work))
    × (new.known ≡ answer.1)
    × (new.count ≡ old.count + weight (entry_of (after opening list) work))
    × (new.additions ≡ old.additions)
Settles loads opening old new work (Err e) =
    IsAt loads opening old new × (entry_of (after opening new.known) work ≢ None)
    × IsUncounted old new

-- whether one who keeps the book may put this state at a name
abbrev pub MayStand : Accounts → List ℕ → AccountState → Type 0
MayStand book name state.NoRecord = IsAdmitted book (entry name None)
MayStand book name (state.Record stored) = IsLoaded book (entry name (Some stored))
MayStand book name state.NoAccount = IsDeleted book (deletion name)

-- the errors of a book at which this state can't be put. A name that the book lacks isn't deleted,
-- and memory runs out only if the book has the name
abbrev pub Refuses : Accounts → List ℕ → AccountState → BookError → Type 0
Refuses book name state.NoRecord e = Admits book book name (Err e)
Refuses book name (state.Record stored) e = Loads book book name stored (Err e)
Refuses book name state.NoAccount error.NoAccount = map.contains_key book name ≡ false
Refuses book name state.NoAccount error.Memory = map.contains_key book name ≡ true
Refuses book name state.NoAccount _ = ⊥

-- an entry, and no other, is added at a list that begins with the known one, if the entry is
-- allowed there, and the session counts one. If the entry is refused, by an error of the book at
-- that list, the session knows that list, and nothing is counted
abbrev pub Adds : {E : Type 0} → Naming → Standing → Standing → Entry
    → Result (List Entry) (KeepError E) → Type 0
Adds name old new added (Ok told) =
    (list : List Entry) × IsListed name.loads name.opening list × IsPrefix old.known list
    × MayStand (after name.opening list) added.name added.now
    × (told ≡ list ++ added ∷ [])
    × (new.known ≡ told)
    × (new.count ≡ old.count)
    × (new.additions ≡ old.additions + 1)
Adds name old new added (Err e) =
    IsAt name.loads name.opening old new
    × Refuses (after name.opening new.known) added.name added.now (refusal_of e)
    × IsUncounted old new
