-- The effects of beginnings and commits, by their answers.
use Rattle.std.specs.Prelude.{◌≡◌, ℕ, List, Bool, true, false, if◌then◌else◌, Option, Some, None, Result, Ok, Err}
use Rattle.std.specs.FinMap as map
use Rattle.cred_phc.specs.Values.{RecordValue}
use Rattle.cred_book.specs.{Accounts.Accounts, Works.Task, Works.name_of, Works.same, Works.whole, Works.makes_change, declared.error.BookError.BookError}
use Rattle.cred_book.specs.declared.error.BookError.TheVariants as error
use Rattle.cred_book.specs.declared.request.Reply.{Reply}
use Rattle.cred_book.specs.declared.request.Reply.TheVariants as reply
use Rattle.cred_book.specs.declared.request.Request.{Request}

-- a ticket is the request with the record of its name
abbrev pub Begins : Accounts → Request → Result Task (Request × BookError) → Type 0
Begins book request (Ok ticket) =
    (ticket.0 ≡ request) × (map.get book (name_of request) ≡ Some ticket.1)
Begins book request (Err e) =
    (e ≡ (request, error.NoAccount)) × (map.get book (name_of request) ≡ None)

-- the reply at this record, which is the copied one or not, with the record after, and whether that
-- is a change
abbrev pub judgement_if : Task → Option RecordValue → Bool → Reply × Option RecordValue × Bool
judgement_if work now is_copy =
    if is_copy
    then ((whole work.0 now).0, (whole work.0 now).1, makes_change (whole work.0 now).0)
    else (reply.Changed now, now, false)

abbrev pub judgement_at : Task → Option (Option RecordValue) → Reply × Option RecordValue × Bool
judgement_at work None = (reply.NoAccount, None, false)
judgement_at work (Some now) = judgement_if work now (same now work.1)

unfoldable pub judgement : Accounts → Task → Reply × Option RecordValue × Bool
judgement book work = judgement_at work (map.get book (name_of work.0))

-- the reply likewise, with the book after
abbrev pub commit_outcome_if : Accounts → Task → Option RecordValue → Bool → Reply × Accounts
commit_outcome_if book work now is_copy =
    if is_copy
    then ((whole work.0 now).0, map.insert book (name_of work.0) (whole work.0 now).1)
    else (reply.Changed now, book)

abbrev pub commit_outcome_at : Accounts → Task → Option (Option RecordValue) → Reply × Accounts
commit_outcome_at book work None = (reply.NoAccount, book)
commit_outcome_at book work (Some now) = commit_outcome_if book work now (same now work.1)

unfoldable pub commit_outcome : Accounts → Task → Reply × Accounts
commit_outcome book work = commit_outcome_at book work (map.get book (name_of work.0))

abbrev pub Commits : Accounts → Accounts → Task → Result Reply (Task × BookError) → Type 0
Commits old new work (Ok r) = (r, new) ≡ commit_outcome old work
Commits old new work (Err (back, error.Memory)) = (back ≡ work) × (new ≡ old)
Commits old new work (Err (back, _)) = ⊥

-- an entry is put at a name that the book has
abbrev pub Sets : Accounts → Accounts → List ℕ → Option RecordValue
    → Result (Unit {0}) BookError → Type 0
Sets old new name now (Ok _) = (map.contains_key old name ≡ true) × (new ≡ map.insert old name now)
Sets old new name now (Err error.NoAccount) = (map.contains_key old name ≡ false) × (new ≡ old)
Sets old new name now (Err _) = ⊥
