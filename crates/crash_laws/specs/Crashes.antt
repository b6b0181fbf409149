-- The result of a run that changes a book: the answers to its changes, and what a crash leaves.
use Rattle.std.specs.Prelude.{◌≡◌, ◌≤◌, ◌⊎◌, Bool, false, if◌then◌else◌, List, [], ◌∷◌, ◌++◌, IfSome, None, is_ok, Result, Ok, Err, ⊤}
use Rattle.std.specs.List.{list_any}
use Rattle.std.specs.FinMap as fin
use Rattle.sqlite.specs.{Store.Ghosts, Tree.Trees}
use Rattle.sqlite_trees.specs.View.{IsClean, doubt}
use Rattle.cred_book.specs.{Accounts.register_capacity, declared.error.BookError.BookError}
use Rattle.cred_book.specs.declared.error.BookError.TheVariants.{Memory}
use Rattle.cred_file.specs.{Cells.Cells, Changes.after_attempt, Keeps.HoldsBook, Kept.Kept, Kept.cells}
use Rattle.cred_file.specs.{declared.fault.Attempt.Attempt, declared.fault.OpenFault.OpenFault}
use Rattle.cred_file.specs.Failures.{LosesForMemory, Remembers, WasClean}

-- ---- the answers

abbrev pub Answer : Type 0
Answer = Result (Unit {0}) BookError

-- a change that somebody asked of a book, and its answer
pub record Asked : Type 0 where
  pub change : Attempt
  pub answer : Answer

abbrev pub is_done : Asked → Bool
is_done a = is_ok a.answer

-- each change with its answer, as far as there are answers
unfoldable pub asked_of : List Answer → List Attempt → List Asked
asked_of [] changes = []
asked_of (answer ∷ answers) [] = []
asked_of (answer ∷ answers) (change ∷ changes) =
    record { change = change; answer = answer } ∷ asked_of answers changes

-- the book after one change, which is made if its answer is Ok
abbrev pub after_one : Cells → Asked → Cells
after_one book a = if is_done a then after_attempt book a.change else book

-- the book after all changes with the answer Ok, one after another
unfoldable pub after : Cells → List Asked → Cells
after book [] = book
after book (a ∷ asked) = after (after_one book a) asked

-- ---- what a crash leaves

-- This change got the answer Memory, and no change after it got Ok.
pub record IsUnderWay (asked : List Asked) (change : Attempt) : Type 0 where
  pub before : List Asked
  pub behind : List Asked
  pub all : asked ≡ before ++ record { change = change; answer = Err Memory } ∷ behind
  pub none_done : list_any is_done behind ≡ false

-- The book has each change with the answer Ok, in their order. It may have one change more, which
-- got the answer Memory, and after which no change got Ok. Nothing else differs.
abbrev pub IsLeft : Cells → List Asked → Cells → Type 0
IsLeft book asked left = (left ≡ after book asked) ⊎ ((change : Attempt)
    × IsUnderWay asked change × (left ≡ after_attempt (after book asked) change))

-- ---- calls that follow one another

-- the clauses of a call about its change
pub record IsCall {S : Type 0} (g : Ghosts S) (old new : Kept S) (a : Asked) : Type 0 where
  pub remembers : Remembers a.change (λ _. ⊤) old new a.answer
  pub refusal : LosesForMemory old new a.answer
  pub clean : WasClean g old new

-- each call finds the book as the one before left it
unfoldable pub Follow : {S : Type 0} → Ghosts S → Kept S → List Asked → Kept S → Type 0
Follow g first [] last = last ≡ first
Follow g first (a ∷ asked) last =
    (next : Kept _) × IsCall g first next a × Follow g next asked last

-- The answers tell the changes of the book, and which change is lost, if one is.
pub record AreMade {S : Type 0} (g : Ghosts S) (old new : Kept S) (asked : List Asked)
    : Type 0 where
  pub book : cells new ≡ after (cells old) asked
  pub lost : old.lost ≡ None → IfSome new.lost (λ l. IsUnderWay asked l.attempt)
  pub clean : WasClean g old new

-- ---- a run, from the store that it is begun on to that store as the run leaves it

-- the answers of a run; none if it opened no book
abbrev pub answers_in : {V : Type 0} → (V → List Answer) → Result V OpenFault → List Answer
answers_in items (Ok answers) = items answers
answers_in items (Err why) = []

-- If the disk has returned the written bytes, a crash leaves of the store the database of a book
-- that is left (`IsLeft`) of the store's book. This book has no more accounts than a book may have.
pub record IsRun {M : Type 0} (g : Ghosts M) (first last : M) (asked : List Asked) : Type 0 where
  pub clean : doubt (g.view first).is_clean ≤ doubt (g.view last).is_clean
  pub left : IsClean (g.view last) → (book : Cells) → HoldsBook (g.view first).committed book
      → (db : Trees) → g.recovers last db
      → (left : Cells) × IsLeft book asked left × HoldsBook db left
      × (fin.len book ≤ register_capacity → fin.len left ≤ register_capacity)
