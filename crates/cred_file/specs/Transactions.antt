-- Accounts that are added together, in one transaction.
use Rattle.std.specs.Prelude.{◌≡◌, ℕ, List, true, false, cond}
use Rattle.std.specs.FinMap as fin
use Rattle.sqlite.specs.State.{State}
use Rattle.sqlite_catalog.specs.Listing.{IsSound}
use Rattle.cred_book.specs.Accounts.{Accounts}
use Rattle.cred_file.specs.Cells.{AllMarks, Cells, Marks, mark_at, renewed_with}
use Rattle.cred_file.specs.declared.marks.Mark.{Mark}
use Rattle.cred_file.specs.{Schema.IsBookSchema, Table.StandsFor, Keeps.LeavesOnly}

-- within a transaction the table stands for this book, and a crash leaves the first one
pub record IsUnderWay (s : State) (first book : Cells) : Type 0 where
  pub schema : IsBookSchema s.now.schema
  pub stands : StandsFor (s.now.trees 0) book
  pub sound : IsSound s.now.schema s.now.trees
  pub inside : s.in_transaction ≡ true
  pub left : LeavesOnly s (λ b. b ≡ first)

-- if the table stood for a book of this kind within the transaction, it now stands for the result
-- of this function on it
abbrev pub MakesWithin : State → State → (Cells → Type 0) → (Cells → Cells) → Type 0
MakesWithin old new Fits after =
    (first book : Cells) → Fits book → IsUnderWay old first book
    → IsUnderWay new first (after book)

-- names that the one book lacks stand as they did
abbrev pub KeepsOthers : Accounts → Accounts → Accounts → Type 0
KeepsOthers old more now =
    (name : List ℕ) → fin.contains_key more name ≡ false → fin.get now name ≡ fin.get old name

-- the marks, with those of these accounts changed
abbrev pub marks_with : (List ℕ → Mark → Mark) → AllMarks → Accounts → AllMarks
marks_with f marks more name =
    cond (fin.contains_key more name) (f name (marks name)) (marks name)

-- the marks likewise, if the change doesn't depend on the name
abbrev pub changed_marks : (Mark → Mark) → AllMarks → Accounts → AllMarks
changed_marks f marks more = marks_with (λ _. f) marks more

-- a new account has its given mark; an existing one gets that mark with its new record
abbrev pub added_mark : Marks → List ℕ → Mark → Mark
added_mark given name m = mark_at given name

abbrev pub changed_mark : Marks → List ℕ → Mark → Mark
changed_mark given name m = renewed_with (mark_at given name) m

-- the marks of a book that takes in accounts
abbrev pub taken_marks : AllMarks → Accounts → Accounts → Marks → AllMarks
taken_marks marks added changed given =
    marks_with (changed_mark given) (marks_with (added_mark given) marks added) changed

-- these accounts have the same marks in both
abbrev pub AgreeOn : Accounts → AllMarks → AllMarks → Type 0
AgreeOn more marks other =
    (name : List ℕ) → fin.contains_key more name ≡ true → marks name ≡ other name

-- there is room for each given mark
abbrev pub HasRoom : Marks → Marks → Type 0
HasRoom marks given =
    (name : List ℕ) → fin.contains_key given name ≡ true → fin.contains_key marks name ≡ true

-- each mark still has the room that it had
abbrev pub KeepsRoom : Marks → Marks → Type 0
KeepsRoom old new = HasRoom new old
