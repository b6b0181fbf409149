-- The answer of a commit, and the list after it.
use Rattle.std.specs.Prelude.{◌≡◌, ℕ, List, [], ◌∷◌, ◌++◌, if◌then◌else◌, Option, Some, None}
use Rattle.cred_phc.specs.Values.{IsPassword}
use Rattle.cred_book.specs.{Accounts.Accounts, Commits.judgement, Works.Task, Works.name_of, declared.request.Reply.Reply, declared.request.Request.Request}
use Rattle.cred_book.specs.declared.request.Request.TheVariants.{Enrol, Verify, Change, Upgrade, Remove}
use Rattle.cred_desk.specs.{Histories.IsAllowed, Histories.IsListed, Histories.after, Histories.entry, Histories.put, Naming.Naming, declared.entry.Entry.Entry}

-- the answer at this book
abbrev pub reply_of : Accounts → Task → Reply
reply_of book work = (judgement book work).0

-- the entry that the commit makes, if it is a change
abbrev pub entry_of : Accounts → Task → Option Entry
entry_of book work = if (judgement book work).2 then Some
    (entry (name_of work.0) (judgement book work).1) else None

-- the list after it
abbrev pub list_after : List Entry → Option Entry → List Entry
list_after list None = list
list_after list (Some entry) = list ++ entry ∷ []

-- an entry may come next in a copy of the book that lacks the one before it, if any, and leads it
-- to the book after this list
abbrev pub LeadsTo : Naming → Accounts → Option Entry → Entry → List Entry → Type 0
LeadsTo name copy last entry list = IsListed name.loads copy (list_after [] last)
    × IsAllowed name.loads (after copy (list_after [] last)) entry
    × (put (after copy (list_after [] last)) entry ≡ after name.opening list)

-- the number of changes: one for an entry
abbrev pub weight : Option Entry → ℕ
weight None = 0
weight (Some entry) = 1

-- the passwords of a request have at most 256 bytes
abbrev pub HavePasswords : Request → Type 0
HavePasswords (Enrol name pw setting) = IsPassword pw
HavePasswords (Verify name pw) = IsPassword pw
HavePasswords (Change name pw new setting) = IsPassword pw × IsPassword new
HavePasswords (Upgrade name pw setting) = IsPassword pw
HavePasswords (Remove name pw) = IsPassword pw
