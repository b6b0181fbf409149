-- The meaning of the name of a desk or of a committer.
use Rattle.std.specs.Prelude.{◌≡◌, ℕ, Bool}
use Rattle.logbook.specs.Pages.{Book}
use Rattle.cred_book.specs.Accounts.{Accounts}

-- the members of `Naming`, with those of `Ledger` above it
abbrev pub Naming : Type 0
Naming = record {
  name : ℕ;
  parts : ℕ;
  list : Book;
  handouts : ℕ;
  opening : Accounts;
  loads : Bool;
}

-- a list that was opened, as a clause sees it before it has a name: which list it is, and which
-- ledgers count what its sessions do and what is handed out
pub record NewList : Type 0 where
  pub list : Book
  pub ledger : ℕ
  pub sessions : ℕ
  pub handouts : ℕ

-- the name is that of this list
abbrev pub IsNamed : Naming → NewList → Type 0
IsNamed name opened = (opened.list ≡ name.list) × (opened.ledger ≡ name.name)
    × (opened.sessions ≡ name.parts) × (opened.handouts ≡ name.handouts)

-- its list starts from this book, and has so many sessions
abbrev pub StartsAt : Naming → Accounts → ℕ → Type 0
StartsAt name book sessions = (book ≡ name.opening) × (name.parts ≡ sessions)
