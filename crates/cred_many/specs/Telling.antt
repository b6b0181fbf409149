-- The accounts of which the answer to a line tells, and what counts of the line's passwords.
use Rattle.std.specs.Prelude.{◌≡◌, ℕ, List, [], ◌∷◌, All, nat_lt, IfSome, length, true}
use Rattle.cred_book.specs.{Passwords.KeepsTags, Passwords.made_setting, Works.name_of}
use Rattle.cred_admin.specs.declared.account_operation.AccountOperation.TheVariants.{Disable, Delete, Rename, Lock, Unlock, Expire}
use Rattle.cred_admin.specs.Marked.{MarkedBook, keeps_password}
use Rattle.cred_many.specs.{LineOperations.hashed_for, Served.name_asked, Served.record_at, declared.line_operation.LineOperation.LineOperation}
use Rattle.cred_many.specs.declared.line_operation.LineOperation.TheVariants.{Quick, Whole, Login, Reset, Forgive, Later}
use Rattle.cred_many.specs.declared.line_operation.QuickOperation.TheVariants.{Account, Load, Show, DisableShown, Bad, OnAccount, List as Names, ListMarks}
use Rattle.cred_book.specs.Passwords as book
use Rattle.std.specs.FinMap as fin

-- ---- accounts

-- the accounts that a line names
abbrev pub names_in : LineOperation → List (List ℕ)
names_in (Quick (Account name)) = name ∷ []
names_in (Quick (Load name stored)) = name ∷ []
names_in (Quick (Show name)) = name ∷ []
names_in (Quick (DisableShown name)) = name ∷ []
names_in (Quick (OnAccount (Disable name))) = name ∷ []
names_in (Quick (OnAccount (Delete name))) = name ∷ []
names_in (Quick (OnAccount (Rename name other))) = name ∷ other ∷ []
names_in (Quick (OnAccount (Lock name))) = name ∷ []
names_in (Quick (OnAccount (Unlock name))) = name ∷ []
names_in (Quick (OnAccount (Expire name))) = name ∷ []
names_in (Quick (Names from most)) = []
names_in (Quick (ListMarks from most)) = []
names_in (Quick (Bad why)) = []
names_in (Whole r) = name_of r ∷ []
names_in (Login name pw setting) = name ∷ []
names_in (Reset name pw setting) = name ∷ []
names_in (Forgive name) = name ∷ []
names_in (Later name seconds) = name ∷ []

-- the name has the same record and the same mark in both
abbrev pub AreAlikeAt : List ℕ → MarkedBook → MarkedBook → Type 0
AreAlikeAt name one other = (fin.get one.accounts name ≡ fin.get other.accounts name)
    × (one.marks name ≡ other.marks name)

-- both books have room for one more account, or neither
abbrev pub HaveRoomAlike : ℕ → MarkedBook → MarkedBook → Type 0
HaveRoomAlike capacity one other =
    nat_lt (fin.len one.accounts) capacity ≡ nat_lt (fin.len other.accounts) capacity

-- the books are alike in what else the answer tells: for a new name the room, for a list the names,
-- and for a list of marks also their marks
abbrev pub AreAlikeBeside : ℕ → LineOperation → MarkedBook → MarkedBook → Type 0
AreAlikeBeside capacity (Quick (Account name)) one other = HaveRoomAlike capacity one other
AreAlikeBeside capacity (Quick (OnAccount (Rename name new))) one other =
    HaveRoomAlike capacity one other
AreAlikeBeside capacity (Quick (Names from most)) one other =
    fin.keys one.accounts ≡ fin.keys other.accounts
AreAlikeBeside capacity (Quick (ListMarks from most)) one other =
    (fin.keys one.accounts ≡ fin.keys other.accounts)
    × All (λ name. one.marks name ≡ other.marks name) (fin.keys other.accounts)
AreAlikeBeside capacity _ one other = Unit {0}

-- the books are alike in all that the answer tells of
abbrev pub AreAlikeFor : ℕ → LineOperation → MarkedBook → MarkedBook → Type 0
AreAlikeFor capacity operation one other =
    All (λ name. AreAlikeAt name one other) (names_in operation)
    × AreAlikeBeside capacity operation one other

-- ---- passwords

-- the line with another password in the place of each
abbrev pub with_passwords : (List ℕ → List ℕ) → LineOperation → LineOperation
with_passwords other (Quick operation) = Quick operation
with_passwords other (Whole r) = Whole (book.with_passwords other r)
with_passwords other (Login name pw setting) = Login name (other pw) setting
with_passwords other (Reset name pw setting) = Reset name (other pw) setting
with_passwords other (Forgive name) = Forgive name
with_passwords other (Later name seconds) = Later name seconds

-- a change to the same password stays one, and another stays another
abbrev pub KeepsSame : (List ℕ → List ℕ) → LineOperation → Type 0
KeepsSame other operation = IfSome (hashed_for operation)
    (λ r. keeps_password (book.with_passwords other r) ≡ keeps_password r)

-- Each replacing password has the tag of the password that it replaces, under the setting of the
-- account's record and under that of the record that the line may make. If the password must be
-- changed, it also counts whether the new one is the old one.
abbrev pub KeepsTagsFor : (List ℕ → List ℕ) → MarkedBook → LineOperation → Type 0
KeepsTagsFor other marked operation =
    IfSome (record_at marked (name_asked operation))
    (λ stored. KeepsTags other stored.setting (length stored.tag))
    × IfSome (hashed_for operation)
    (λ r. IfSome (made_setting r) (λ setting. KeepsTags other setting 32))
    × ((marked.marks (name_asked operation)).must_change ≡ true → KeepsSame other operation)
