-- The effect of a change on a book, and the answers of the calls that make a change.
use Rattle.std.specs.Prelude.{◌≡◌, ℕ, ◌+◌, ◌≤◌, ◌<◌, ◌||◌, Bool, List, ◌++◌, ⊤, nat_lt, Option, None, unwrap_or, Result, Ok, Err, true, false}
use Rattle.std.specs.FinMap as fin
use Rattle.cred_phc.specs.Values.{RecordValue}
use Rattle.cred_book.specs.{Accounts.Accounts, Names.name_cmp, declared.error.BookError.BookError}
use Rattle.cred_book.specs.declared.error.BookError.TheVariants as error
use Rattle.cred_file.specs.Cells.{AllMarks, Cells, Marks, blank, cells_of, mark_at, mark_in, marked, marking, renewal, renewed_with}
use Rattle.cred_file.specs.declared.marks.Mark.{Mark}
use Rattle.cred_file.specs.declared.fault.Attempt.{Attempt}
use Rattle.cred_file.specs.declared.fault.Attempt.TheVariants as attempt

-- the record goes with the name
abbrev pub renamed : Accounts → List ℕ → List ℕ → Accounts
renamed book name other =
    fin.insert (fin.remove book name) other (unwrap_or (fin.get book name) None)

-- the accounts of both
abbrev pub joined : Accounts → Accounts → Accounts
joined book more = fin.from_entries (fin.entries more ++ fin.entries book)

-- the first accounts with the second ones added, and with the records of the third ones
abbrev pub taken_in : Accounts → Accounts → Accounts → Accounts
taken_in book added changed = joined (joined book added) changed

-- ---- the same of accounts with marks

-- the marks go with the name
abbrev pub moved : Cells → List ℕ → List ℕ → Cells
moved cells name other =
    fin.insert (fin.remove cells name) other (unwrap_or (fin.get cells name) blank)

abbrev pub joined_cells : Cells → Cells → Cells
joined_cells cells more = fin.from_entries (fin.entries more ++ fin.entries cells)

-- added accounts have their given marks
abbrev pub with_added : Cells → Accounts → Marks → Cells
with_added cells added given = joined_cells cells (cells_of added (mark_at given))

-- changed accounts have these marks with their new record, and their lock stays
abbrev pub with_changed : Cells → Accounts → Marks → Cells
with_changed cells changed given = joined_cells cells
    (cells_of changed (λ name. renewed_with (mark_at given name) (mark_in cells name)))

abbrev pub taken_cells : Cells → Accounts → Accounts → Marks → Cells
taken_cells cells added changed given =
    with_changed (with_added cells added given) changed given

abbrev pub after_attempt : Cells → Attempt → Cells
after_attempt cells (attempt.Put name stored) =
    fin.insert cells name (renewal cells name stored)
after_attempt cells (attempt.Mark name mark) = fin.insert cells name (marking cells name mark)
after_attempt cells (attempt.TakeIn added changed marks) = taken_cells cells added changed marks
after_attempt cells (attempt.Delete name) = fin.remove cells name
after_attempt cells (attempt.Rename name other) = moved cells name other

-- no name is in both
abbrev pub AreApart : {V : Type 0} → fin.FinMap name_cmp V → Accounts → Type 0
AreApart book more =
    (name : List ℕ) → fin.contains_key more name ≡ true → fin.contains_key book name ≡ false

-- the change gives records to existing accounts, or to new ones
abbrev pub IsOfRecords : Cells → Attempt → Type 0
IsOfRecords cells (attempt.Put name stored) = ⊤
IsOfRecords cells (attempt.TakeIn added changed marks) = AreApart cells added
IsOfRecords cells _ = ⊥

-- a change is made whole, or not at all
abbrev pub Becomes : {E : Type 0} → Cells → Cells → Cells → Result (Unit {0}) E → Type 0
Becomes old new after (Ok _) = new ≡ after
Becomes old new after (Err _) = new ≡ old

-- ---- what the calls answer, and the book

-- the name is there, or there is room for one more
abbrev pub has_room_for : ℕ → Accounts → List ℕ → Bool
has_room_for capacity book name = fin.contains_key book name || nat_lt (fin.len book) capacity

-- the entry is in the book from now on; memory runs out only if the entry would have been put
abbrev pub PutsEntry : ℕ → Accounts → Accounts → List ℕ → Option RecordValue
    → Result (Unit {0}) BookError → Type 0
PutsEntry capacity old new name stored (Ok _) =
    (has_room_for capacity old name ≡ true) × (new ≡ fin.insert old name stored)
PutsEntry capacity old new name stored (Err error.Full) =
    (has_room_for capacity old name ≡ false) × (new ≡ old)
PutsEntry capacity old new name stored (Err error.Memory) =
    (has_room_for capacity old name ≡ true) × (new ≡ old)
PutsEntry capacity old new name stored (Err _) = ⊥

-- the name is removed; memory runs out only if the name is there
abbrev pub Deletes : Accounts → Accounts → List ℕ → Result (Unit {0}) BookError → Type 0
Deletes old new name (Ok _) = (fin.contains_key old name ≡ true) × (new ≡ fin.remove old name)
Deletes old new name (Err error.NoAccount) = (fin.contains_key old name ≡ false) × (new ≡ old)
Deletes old new name (Err error.Memory) = (fin.contains_key old name ≡ true) × (new ≡ old)
Deletes old new name (Err _) = ⊥

-- the one name is there, and the other is not
abbrev pub MayRename : Accounts → List ℕ → List ℕ → Type 0
MayRename book name other =
    (fin.contains_key book name ≡ true) × (fin.contains_key book other ≡ false)

-- The record is at the other name. Both names are in memory for a moment, so the book must have
-- room for one more. Memory runs out only if there is room.
abbrev pub Renames : ℕ → Accounts → Accounts → List ℕ → List ℕ
    → Result (Unit {0}) BookError → Type 0
Renames capacity old new name other (Ok _) =
    MayRename old name other × (new ≡ renamed old name other)
Renames capacity old new name other (Err error.NoAccount) =
    (fin.contains_key old name ≡ false) × (new ≡ old)
Renames capacity old new name other (Err error.Exists) =
    (fin.contains_key old name ≡ true) × (fin.contains_key old other ≡ true) × (new ≡ old)
Renames capacity old new name other (Err error.Full) =
    MayRename old name other × (capacity ≤ fin.len old) × (new ≡ old)
Renames capacity old new name other (Err error.Memory) =
    MayRename old name other × (fin.len old < capacity) × (new ≡ old)
Renames capacity old new name other (Err error.Name) = ⊥

-- a name is in both
abbrev pub Meet : Accounts → Accounts → Type 0
Meet book more =
    (name : List ℕ) × (fin.contains_key more name ≡ true) × (fin.contains_key book name ≡ true)

-- all names of the first are in the second, or one is missing there
abbrev pub AreThere : {V W : Type 0} → fin.FinMap name_cmp V → fin.FinMap name_cmp W → Type 0
AreThere book changed =
    (name : List ℕ) → fin.contains_key changed name ≡ true → fin.contains_key book name ≡ true

abbrev pub Misses : Accounts → Accounts → Type 0
Misses book changed = (name : List ℕ) × (fin.contains_key changed name ≡ true)
    × (fin.contains_key book name ≡ false)

-- The accounts to add have new names, and the accounts to change exist.
abbrev pub MayTakeIn : Accounts → Accounts → Accounts → Type 0
MayTakeIn book added changed = AreApart book added × AreThere book changed

-- all accounts are added and changed, or none
abbrev pub TakesIn : ℕ → Accounts → Accounts → Accounts → Accounts → Result (Unit {0}) BookError
    → Type 0
TakesIn capacity old new added changed (Ok _) = MayTakeIn old added changed
    × (fin.len old + fin.len added ≤ capacity) × (new ≡ taken_in old added changed)
TakesIn capacity old new added changed (Err error.Exists) = Meet old added × (new ≡ old)
TakesIn capacity old new added changed (Err error.NoAccount) = Misses old changed × (new ≡ old)
TakesIn capacity old new added changed (Err error.Full) = MayTakeIn old added changed
    × (capacity < fin.len old + fin.len added) × (new ≡ old)
TakesIn capacity old new added changed (Err error.Memory) = MayTakeIn old added changed
    × (fin.len old + fin.len added ≤ capacity) × (new ≡ old)
TakesIn capacity old new added changed (Err error.Name) = ⊥

-- the mark of a name that is there is this one, and all else stays
abbrev pub SetsMark : Accounts → Accounts → AllMarks → AllMarks → List ℕ → Mark
    → Result (Unit {0}) BookError → Type 0
SetsMark old new was now name m (Ok _) =
    (fin.contains_key old name ≡ true) × (new ≡ old) × (now ≡ marked was name m)
SetsMark old new was now name m (Err error.NoAccount) =
    (fin.contains_key old name ≡ false) × (new ≡ old) × (now ≡ was)
SetsMark old new was now name m (Err error.Memory) =
    (fin.contains_key old name ≡ true) × (new ≡ old) × (now ≡ was)
SetsMark old new was now name m (Err _) = ⊥
