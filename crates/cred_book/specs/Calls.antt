-- The effect of each call on a book, by its answer.
use Rattle.std.specs.Prelude.{◌≡◌, ℕ, ◌<◌, ◌≤◌, List, Option, Some, None, Result, Ok, Err, true, false}
use Rattle.std.specs.FinMap as map
use Rattle.cred_phc.specs.Values.{RecordValue}
use Rattle.cred_book.specs.{Accounts.Accounts, Accounts.book_capacity, declared.error.BookError.BookError}
use Rattle.cred_book.specs.declared.error.BookError.TheVariants as error

-- the book has a new name from now on, with this record or none, if it had fewer names than its
-- capacity; memory runs out only if the name would have been added
abbrev pub EntersWithin : ℕ → Accounts → Accounts → List ℕ → Option RecordValue
    → Result (Unit {0}) BookError → Type 0
EntersWithin capacity old new name now (Ok _) =
    (map.contains_key old name ≡ false) × (map.len old < capacity) × (new ≡ map.insert old name now)
EntersWithin capacity old new name now (Err error.Exists) =
    (map.contains_key old name ≡ true) × (new ≡ old)
EntersWithin capacity old new name now (Err error.Full) =
    (map.contains_key old name ≡ false) × (capacity ≤ map.len old) × (new ≡ old)
EntersWithin capacity old new name now (Err error.Memory) =
    (map.contains_key old name ≡ false) × (map.len old < capacity) × (new ≡ old)
EntersWithin capacity old new name now (Err _) = ⊥

-- likewise for a name with no record
abbrev pub AdmitsWithin : ℕ → Accounts → Accounts → List ℕ → Result (Unit {0}) BookError → Type 0
AdmitsWithin capacity old new name result = EntersWithin capacity old new name None result

-- the same within the capacity of a Book
abbrev pub Admits : Accounts → Accounts → List ℕ → Result (Unit {0}) BookError → Type 0
Admits old new name result = AdmitsWithin book_capacity old new name result

-- the name has this record from now on; memory runs out only if the book has the name
abbrev pub Loads : Accounts → Accounts → List ℕ → RecordValue → Result (Unit {0}) BookError → Type 0
Loads old new name stored (Ok _) =
    (map.contains_key old name ≡ true) × (new ≡ map.insert old name (Some stored))
Loads old new name stored (Err error.NoAccount) = (map.contains_key old name ≡ false) × (new ≡ old)
Loads old new name stored (Err error.Memory) = (map.contains_key old name ≡ true) × (new ≡ old)
Loads old new name stored (Err _) = ⊥

-- the record at the name
abbrev pub Shows : Accounts → List ℕ → Result (Option RecordValue) BookError → Type 0
Shows book name (Ok stored) = map.get book name ≡ Some stored
Shows book name (Err error.NoAccount) = map.get book name ≡ None
Shows book name (Err _) = ⊥
