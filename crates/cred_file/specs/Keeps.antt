-- When a connection keeps a book, and what a crash leaves of the book.
use Rattle.std.specs.Prelude.{◌≡◌, ◌⊎◌, ℕ, ◌≤◌, List, true, false, Option, Some, None}
use Rattle.std.specs.FinMap as fin
use Rattle.sqlite.specs.{Schema.Schema, Tree.Trees, State.State, State.HasCleanDisk, Held.Held, Held.state, Store.Ghosts}
use Rattle.sqlite_catalog.specs.Listing.{IsSound}
use Rattle.sqlite_trees.specs.View.{IsClean}
use Rattle.cred_file.specs.Cells.{Cells}
use Rattle.cred_book.specs.Accounts.{register_capacity}
use Rattle.cred_file.specs.{declared.fault.Lost.Lost, declared.fault.OpenFault.OpenFault, Changes.after_attempt, Opening.IsForWant, Schema.IsBookSchema, Table.StandsFor}

-- a database with the one table, whose rows stand for the book
pub record HoldsBook (db : Trees) (book : Cells) : Type 0 where
  pub schema : Schema
  pub of_book : IsBookSchema schema
  pub sound : IsSound schema db
  pub stands : StandsFor (db 0) book

-- whatever a crash leaves is a database of one of these books
abbrev pub LeavesOnly : State → (Cells → Type 0) → Type 0
LeavesOnly s P =
    (db : Trees) → s.may_leave db → (book : Cells) × P book × HoldsBook db book

-- the table stands for the book, outside a transaction, and so does what a crash leaves
pub record IsTableOf (s : State) (book : Cells) : Type 0 where
  pub schema : IsBookSchema s.now.schema
  pub stands : StandsFor (s.now.trees 0) book
  pub sound : IsSound s.now.schema s.now.trees
  pub autocommit : s.in_transaction ≡ false
  pub left : LeavesOnly s (λ b. b ≡ book)

-- if the old table stands for a book of this kind, the new one stands for the result of this
-- function on it
abbrev pub Makes : State → State → (Cells → Type 0) → (Cells → Cells) → Type 0
Makes old new Fits after =
    (book : Cells) → Fits book → IsTableOf old book → IsTableOf new (after book)

-- a crash likewise leaves the book as it was, or the result of this function on it
abbrev pub MayMake : State → State → (Cells → Type 0) → (Cells → Cells) → Type 0
MayMake old new Fits after =
    (book : Cells) → Fits book → IsTableOf old book
    → LeavesOnly new (λ b. (b ≡ book) ⊎ (b ≡ after book))

-- the name is not there, and is there
abbrev pub Lacks : List ℕ → Cells → Type 0
Lacks name book = fin.contains_key book name ≡ false

abbrev pub Has : List ℕ → Cells → Type 0
Has name book = fin.contains_key book name ≡ true

-- the first name is there, and the second isn't
abbrev pub IsRenamable : List ℕ → List ℕ → Cells → Type 0
IsRenamable name other book = Has name book × Lacks other (fin.remove book name)

-- a crash leaves what it could leave before, or an empty book
abbrev pub MayBegin : State → State → Type 0
MayBegin old new = (db : Trees) → new.may_leave db → old.may_leave db ⊎ HoldsBook db fin.empty

-- the book as it was, or with the change that was under way when the database failed
abbrev pub IsOrWith : Cells → Option Lost → Cells → Type 0
IsOrWith book None b = b ≡ book
IsOrWith book (Some l) b = (b ≡ book) ⊎ (b ≡ after_attempt book l.attempt)

-- If the disk has returned the written bytes, the table is the book's until a change is lost, and a
-- crash leaves the book, or the book with the lost change. Neither book has too many accounts.
pub record Keeps {S : Type 0} (g : Ghosts S) (conn : Held S) (book : Cells)
    (lost : Option Lost) : Type 0 where
  pub table : HasCleanDisk (state g conn) → lost ≡ None → IsTableOf (state g conn) book
  pub left : HasCleanDisk (state g conn) → LeavesOnly (state g conn) (IsOrWith book lost)
  pub few : (b : Cells) → IsOrWith book lost b → fin.len b ≤ register_capacity

-- a crash may leave a database of this book
pub record MayLeave {S : Type 0} (g : Ghosts S) (store : S) (book : Cells) : Type 0 where
  pub clean : IsClean (g.view store)
  pub db : Trees
  pub left : g.recovers store db
  pub holds : HoldsBook db book

-- a crash may leave a database that is refused for this
pub record MayRefuse {S : Type 0} (g : Ghosts S) (store : S) (why : OpenFault) : Type 0 where
  pub clean : IsClean (g.view store)
  pub db : Trees
  pub left : g.recovers store db
  pub for_want : (book : Cells) → HoldsBook db book → fin.len book ≤ register_capacity
      → IsForWant why
