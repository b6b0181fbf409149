-- A session as a clause sees it, and the effects of its calls.
use Rattle.std.specs.Prelude.{◌≡◌, ◌≢◌, ◌<◌, ℕ, List, [], length, Some, None, Result, Ok, Err}
use Rattle.std.specs.FinMap as map
use Rattle.cred_book.specs.{Accounts.Accounts, Works.Task, Works.name_of, declared.request.Reply.Reply, declared.request.Request.Request}
use Rattle.cred_desk.specs.{Commits.reply_of, declared.entry.Entry.Entry, declared.error.DeskError.DeskError}
use Rattle.cred_desk.specs.declared.error.DeskError.TheVariants as error

pub record Standing : Type 0 where
  -- the list that it knows
  pub known : List Entry
  -- the number of changes that its settles made
  pub count : ℕ
  -- the number of entries that it added: admissions, loads and deletions
  pub additions : ℕ

-- a session that knows nothing, and has done nothing
abbrev pub IsNew : Standing → Type 0
IsNew s = (s.known ≡ []) × (s.count ≡ 0) × (s.additions ≡ 0)

-- the session made no change and no addition
abbrev pub IsUncounted : Standing → Standing → Type 0
IsUncounted old new = (new.count ≡ old.count) × (new.additions ≡ old.additions)

-- a ticket is the request with the record of its name in this book
abbrev pub BeginsAt : Accounts → Standing → Standing → Request → Result Task (Request × DeskError)
    → Type 0
BeginsAt book old new request (Ok ticket) = (ticket.0 ≡ request)
    × (map.get book (name_of request) ≡ Some ticket.1)
BeginsAt book old new request (Err (back, error.NoAccount)) = (back ≡ request)
    × (map.get book (name_of request) ≡ None)
BeginsAt book old new request (Err (back, error.Reader)) = (back ≡ request) × (new ≡ old)
BeginsAt book old new request (Err (back, error.Older)) = (back ≡ request) × (new ≡ old)
    × (0 < length old.known)
BeginsAt book old new request (Err (back, error.Memory)) = ⊥
BeginsAt book old new request (Err (back, error.Sessions)) = ⊥
BeginsAt book old new request (Err (back, error.Session)) = ⊥

-- the answer is the one of a commit at this book
abbrev pub ClosesAt : Accounts → Standing → Standing → Task → Result Reply (Task × DeskError)
    → Type 0
ClosesAt book old new work (Ok answer) = answer ≡ reply_of book work
ClosesAt book old new work (Err (back, error.Reader)) = (back ≡ work) × (new ≡ old)
ClosesAt book old new work (Err (back, error.Older)) = (back ≡ work) × (new ≡ old)
    × (0 < length old.known)
ClosesAt book old new work (Err (back, error.Memory)) = ⊥
ClosesAt book old new work (Err (back, error.Sessions)) = ⊥
ClosesAt book old new work (Err (back, error.Session)) = ⊥
ClosesAt book old new work (Err (back, error.NoAccount)) = ⊥

-- the reason why a desk isn't closed, by how many sessions it has and those handed in: some are
-- missing
abbrev pub IsMissed : ℕ → List Standing → DeskError → Type 0
IsMissed all given error.Session = length given ≢ all
IsMissed all given _ = ⊥
