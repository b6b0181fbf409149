-- What a lock of an account bars, and whom a mark concerns.
use Rattle.std.specs.Prelude.{◌≡◌, ◌≢◌, ◌⊎◌, ℕ, All, List, true, codes}
use Rattle.std.specs.FinMap as fin
use Rattle.cred_book.specs.Works.{name_of}
use Rattle.cred_admin.specs.Marked.{MarkedBook}
use Rattle.cred_admin.specs.declared.account_operation.AccountOperation.TheVariants.{Disable, Delete, Rename, Unlock}
use Rattle.cred_many.specs.{Telling.names_in, declared.line_operation.LineOperation.LineOperation}
use Rattle.cred_many.specs.declared.line_operation.LineOperation.TheVariants.{Quick, Whole, Login, Reset}
use Rattle.cred_many.specs.declared.line_operation.QuickOperation.TheVariants.{Load, DisableShown, OnAccount, ListMarks}

-- the account is there, and locked
abbrev pub IsLocked : MarkedBook → List ℕ → Type 0
IsLocked book name = (fin.contains_key book.accounts name ≡ true)
    × ((book.marks name).locked ≡ true)

-- the line unlocks or deletes the account, or gives it another name, with which its lock goes
abbrev pub EndsLock : List ℕ → LineOperation → Type 0
EndsLock name (Quick (OnAccount (Unlock other))) = name ≡ other
EndsLock name (Quick (OnAccount (Delete other))) = name ≡ other
EndsLock name (Quick (OnAccount (Rename other new))) = name ≡ other
EndsLock name _ = ⊥

-- the line tries a password of the account, or makes its first record
abbrev pub IsTryAt : List ℕ → LineOperation → Type 0
IsTryAt name (Whole r) = name ≡ name_of r
IsTryAt name (Login other pw setting) = name ≡ other
IsTryAt name _ = ⊥

-- the line puts or removes a record, and asks for no password
abbrev pub PutsRecord : List ℕ → LineOperation → Type 0
PutsRecord name (Quick (Load other stored)) = name ≡ other
PutsRecord name (Quick (OnAccount (Disable other))) = name ≡ other
PutsRecord name (Quick (DisableShown other)) = name ≡ other
PutsRecord name (Reset other pw setting) = name ≡ other
PutsRecord name _ = ⊥

-- the answer says that the password is wrong, that there is no record, or that there is one already
abbrev pub IsNo : List ℕ → Type 0
IsNo line = (line ≡ codes "no\n") ⊎ (line ≡ codes "wrong\n") ⊎ (line ≡ codes "absent\n")
    ⊎ (line ≡ codes "exists\n")

-- ---- whom a mark concerns

abbrev pub ListsMarks : LineOperation → Type 0
ListsMarks (Quick (ListMarks from most)) = Unit {0}
ListsMarks _ = ⊥

-- the line doesn't name the account, and asks for no list of marks
abbrev pub IsApart : List ℕ → LineOperation → Type 0
IsApart name operation =
    All (λ named. name ≢ named) (names_in operation) × (ListsMarks operation → ⊥)
