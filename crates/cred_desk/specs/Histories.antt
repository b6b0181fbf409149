-- Lists of entries, the books that they lead to, and which of them come about.
use Rattle.std.specs.Prelude.{◌≡◌, ◌⊎◌, ℕ, ◌<◌, List, [], ◌∷◌, Bool, true, false, Option, Some, None}
use Rattle.std.specs.FinMap as map
use Rattle.cred_phc.specs.{Tags.tag, Values.RecordValue, Values.IsPassword}
use Rattle.cred_book.specs.{Accounts.Accounts, Accounts.book_capacity, Works.right}
use Rattle.cred_desk.specs.declared.entry.AccountState.{AccountState}
use Rattle.cred_desk.specs.declared.entry.AccountState.TheVariants as state
use Rattle.cred_desk.specs.declared.entry.Entry.{Entry}

-- the state of a name that the book has
abbrev pub state_of : Option RecordValue → AccountState
state_of None = state.NoRecord
state_of (Some stored) = state.Record stored

-- the name has this record from now on, or none
abbrev pub entry : List ℕ → Option RecordValue → Entry
entry name stored = record { name = name; now = state_of stored }

-- the name is gone from now on
abbrev pub deletion : List ℕ → Entry
deletion name = record { name = name; now = state.NoAccount }

-- ---- books

-- the book with this state at the name
abbrev pub with_state : Accounts → List ℕ → AccountState → Accounts
with_state book name (state.Record stored) = map.insert book name (Some stored)
with_state book name state.NoRecord = map.insert book name None
with_state book name state.NoAccount = map.remove book name

-- the book after an entry, whose name is added if the book lacks it
abbrev pub put : Accounts → Entry → Accounts
put book entry = with_state book entry.name entry.now

-- the book after all of them, one after another
abbrev pub after : Accounts → List Entry → Accounts
after book [] = book
after book (entry ∷ entries) = after (put book entry) entries

-- ---- entries that operations make

-- the record is one of some password of at most 256 bytes
abbrev pub IsOpened : RecordValue → Type 0
IsOpened stored = (pw : List ℕ) × IsPassword pw × (right stored pw ≡ true)

-- its tag is the one of 32 bytes that its setting gives some password of at most 256 bytes
abbrev pub IsMinted : RecordValue → Type 0
IsMinted stored = (pw : List ℕ) × IsPassword pw × (stored.tag ≡ tag stored.setting 32 pw)

-- the state that an operation may leave at a name: a new record if there was none or its password
-- was known, and no record if the password was known. The name stays
abbrev pub Follows : Option RecordValue → AccountState → Type 0
Follows None state.NoRecord = ⊥
Follows None (state.Record new) = IsMinted new
Follows None state.NoAccount = ⊥
Follows (Some old) state.NoRecord = IsOpened old
Follows (Some old) (state.Record new) = IsOpened old × IsMinted new
Follows (Some old) state.NoAccount = ⊥

abbrev pub FollowsAt : Option (Option RecordValue) → AccountState → Type 0
FollowsAt None now = ⊥
FollowsAt (Some old) now = Follows old now

-- some operation makes this entry of a book, which has its name
abbrev pub IsMade : Accounts → Entry → Type 0
IsMade book entry = FollowsAt (map.get book entry.name) entry.now

-- ---- entries of those who keep the book

-- a new name, with no record, while there is room
abbrev pub IsAdmitted : Accounts → Entry → Type 0
IsAdmitted book entry = (map.contains_key book entry.name ≡ false) × (map.len book < book_capacity)
    × (entry.now ≡ state.NoRecord)

-- a record at a name that the book has
abbrev pub IsLoaded : Accounts → Entry → Type 0
IsLoaded book entry = (map.contains_key book entry.name ≡ true)
    × ((stored : RecordValue) × (entry.now ≡ state.Record stored))

-- a name that the book has, which is deleted
abbrev pub IsDeleted : Accounts → Entry → Type 0
IsDeleted book entry = (map.contains_key book entry.name ≡ true) × (entry.now ≡ state.NoAccount)

-- ---- lists

-- an entry that may come next: of an operation, or, if the list may have loads, of one who keeps
-- the book
abbrev pub IsAllowed : Bool → Accounts → Entry → Type 0
IsAllowed false book entry = IsMade book entry
IsAllowed true book entry = IsMade book entry
    ⊎ (IsAdmitted book entry ⊎ (IsLoaded book entry ⊎ IsDeleted book entry))

-- each entry was allowed at the book of those before it
abbrev pub IsListed : Bool → Accounts → List Entry → Type 0
IsListed loads book [] = Unit {0}
IsListed loads book (entry ∷ entries) = IsAllowed loads book entry
    × IsListed loads (put book entry) entries

-- operations alone made the list
abbrev pub IsLegal : Accounts → List Entry → Type 0
IsLegal = IsListed false

-- operations, admissions, loads and deletions made it
abbrev pub IsLawful : Accounts → List Entry → Type 0
IsLawful = IsListed true
