-- The effect of an import on a kept book.
use Rattle.std.specs.Prelude.{◌≡◌, ℕ, ◌+◌, ◌≤◌, ◌<◌, true, false, List, [], ◌++◌, length, codes, decimal, IfSome, Result, Ok, Err}
use Rattle.std.specs.FinMap as map
use Rattle.cred_book.specs.Accounts.{Accounts, register_capacity}
use Rattle.cred_admin.specs.{Import.Tally, Import.tally, declared.import.ImportFault.ImportFault}
use Rattle.cred_admin.specs.declared.import.ImportFault.TheVariants as fault
use Rattle.cred_cli.specs.Watched.{Reading}
use Rattle.cred_file.specs.{Cells.AllMarks, Cells.renewed_with, Changes.taken_in, Transactions.marks_with}
use Rattle.cred_admin.specs.Marked.{MarkedBook, marked_book}
use Rattle.cred_keep.specs.{declared.import.BadLines.TheVariants.Refused, declared.import.CountsForm.CountsForm}
use Rattle.cred_keep.specs.declared.import.CountsForm.TheVariants.{Hidden, Plain, Json}
use Rattle.cred_keep.specs.{declared.import.Effect.Effect, declared.import.Effect.TheVariants.Made, declared.import.Effect.TheVariants.Foretold}
use Rattle.cred_keep.specs.{declared.import.Imported.Imported, declared.import.Importing.Importing}

-- the marks of a book after it takes in accounts with these marks; a lock stays
abbrev pub given_marks : AllMarks → Accounts → Accounts → AllMarks → AllMarks
given_marks marks added changed given =
    marks_with (λ name. renewed_with (given name))
    (marks_with (λ name m. given name) marks added) changed

-- The book with these new accounts, and with these records at others, each with its given mark. A
-- dry run changes nothing.
abbrev pub book_after : Effect → MarkedBook → Accounts → Accounts → AllMarks → MarkedBook
book_after Made book added changed given = marked_book (taken_in book.accounts added changed)
    (given_marks book.marks added changed given)
book_after Foretold book added changed given = book

-- the book takes the accounts in if there is room for them, and otherwise stays as it was
abbrev pub Takes : Effect → MarkedBook → MarkedBook → Accounts → Accounts → AllMarks
    → Result (Unit {0}) ImportFault → Type 0
Takes effect old new added changed given (Ok _) =
    (map.len old.accounts + map.len added ≤ register_capacity)
    × (new ≡ book_after effect old added changed given)
Takes effect old new added changed given (Err fault.Full) =
    (register_capacity < map.len old.accounts + map.len added) × (new ≡ old)
Takes effect old new added changed given (Err fault.Memory) = new ≡ old
Takes effect old new added changed given (Err fault.Read) = ⊥
Takes effect old new added changed given (Err (fault.Lines bad)) = ⊥

-- the text of these counts: new accounts, accounts with another record, lines whose account exists
-- and stays, and bad lines
abbrev pub counts_text : CountsForm → ℕ → ℕ → ℕ → ℕ → List ℕ
counts_text Hidden added changed kept bad = []
counts_text Plain added changed kept bad = decimal added ++ codes " added, " ++ decimal changed
    ++ codes " updated, " ++ decimal kept ++ codes " there already, " ++ decimal bad
    ++ codes " bad\n"
counts_text Json added changed kept bad = codes "{\"added\":" ++ decimal added
    ++ codes ",\"updated\":" ++ decimal changed ++ codes ",\"there\":" ++ decimal kept
    ++ codes ",\"bad\":" ++ decimal bad ++ codes "}\n"

-- No line is bad, or the import leaves the bad lines out. The book takes in what the other lines
-- come to, with their marks, and the told counts are right.
pub record TakesAll (how : Importing) (old new : MarkedBook) (t : Tally) (made : Imported)
    : Type 0 where
  pub good : how.bad ≡ Refused → t.bad ≡ []
  pub room : map.len old.accounts + map.len t.accounts ≤ register_capacity
  pub book : new ≡ book_after how.effect old t.accounts t.changed t.marks
  pub effect : made.effect ≡ how.effect
  pub added : made.added ≡ map.len t.accounts
  pub changed : made.changed ≡ map.len t.changed
  pub kept : made.kept ≡ t.kept
  pub bad : made.bad.items ≡ t.bad
  pub text : made.text.items
      ≡ counts_text how.counts made.added made.changed made.kept (length made.bad.items)

-- The book takes in what the lines come to. Or some lines are bad, there would be too many
-- accounts, a call on the reader failed, or none failed and memory ran out; then the book is as it
-- was.
abbrev pub Imports : Importing → Reading → MarkedBook → MarkedBook → Result Imported ImportFault
    → Type 0
Imports how r old new (Ok made) =
    (text : List ℕ) × IfSome r.input (λ bytes. text ≡ bytes)
    × TakesAll how old new (tally how.rules old.accounts text) made
Imports how r old new (Err (fault.Lines bad)) =
    (text : List ℕ) × IfSome r.input (λ bytes. text ≡ bytes) × (how.bad ≡ Refused)
    × (bad.items ≡ (tally how.rules old.accounts text).bad) × (0 < length bad.items) × (new ≡ old)
Imports how r old new (Err fault.Full) =
    (text : List ℕ) × IfSome r.input (λ bytes. text ≡ bytes)
    × (register_capacity < map.len old.accounts + map.len (tally how.rules old.accounts text).accounts)
    × (new ≡ old)
Imports how r old new (Err fault.Memory) = (r.failed ≡ false) × (new ≡ old)
Imports how r old new (Err fault.Read) = (r.failed ≡ true) × (new ≡ old)
