-- What the table holds of an account: its record, if any, and its marks; and the text of both.
use Rattle.std.specs.Prelude.{ℕ, ◌==◌, ◌||◌, ◌&&◌, not, Bool, false, cond, if◌then◌else◌, List, [], ◌∷◌, ◌++◌, map, Option, Some, None, is_some, unwrap_or, Result, Ok, Err}
use Rattle.std.specs.FinMap as fin
use Rattle.std.specs.Ordering.{eq_by_cmp}
use Rattle.cred_phc.specs.{Values.RecordValue, Reading.read_record, declared.error.PhcError.PhcError}
use Rattle.cred_book.specs.{Accounts.Accounts, Names.name_cmp}
use Rattle.cred_file.specs.declared.marks.Mark.{Mark}

pub record Cell : Type 0 where
  pub stored : Option RecordValue
  pub mark : Mark

abbrev pub cell : Option RecordValue → Mark → Cell
cell stored mark = record { stored = stored; mark = mark }

abbrev pub unmarked : Mark
unmarked = record { locked = false; must_change = false }

abbrev pub is_marked : Mark → Bool
is_marked m = m.locked || m.must_change

-- neither a record nor a mark
abbrev pub blank : Cell
blank = cell None unmarked

abbrev pub is_blank : Cell → Bool
is_blank c = not (is_some c.stored) && not (is_marked c.mark)

-- a new record ends the mark that the old one must change, but a lock stays
abbrev pub renewed : Mark → Mark
renewed m = record { locked = m.locked; must_change = false }

-- the mark after a new record that comes with marks of its own
abbrev pub renewed_with : Mark → Mark → Mark
renewed_with given m =
    record { locked = given.locked || m.locked; must_change = given.must_change }

-- the accounts with their marks
abbrev pub Cells : Type 0
Cells = fin.FinMap name_cmp Cell

-- ---- the text: `!` (33) of a lock, `~` (126) of a record that must change, and the record's

abbrev pub mark_text : Mark → List ℕ
mark_text m =
    (if m.locked then 33 ∷ [] else []) ++ (if m.must_change then 126 ∷ [] else [])

abbrev pub begins : ℕ → List ℕ → Bool
begins byte [] = false
begins byte (first ∷ text) = first == byte

-- the text after this byte, if it begins with it
abbrev pub past : ℕ → List ℕ → List ℕ
past byte [] = []
past byte (first ∷ text) = if first == byte then text else first ∷ text

abbrev pub mark_of : List ℕ → Mark
mark_of text = record { locked = begins 33 text; must_change = begins 126 (past 33 text) }

abbrev pub rest_of : List ℕ → List ℕ
rest_of text = past 126 (past 33 text)

abbrev pub with_mark : Mark → Result RecordValue PhcError → Result Cell PhcError
with_mark m (Ok v) = Ok (cell (Some v) m)
with_mark m (Err e) = Err e

-- after the marks stands the text of a record, or nothing
abbrev pub read_rest : Mark → List ℕ → Result Cell PhcError
read_rest m [] = if is_marked m then Ok (cell None m) else with_mark m (read_record [])
read_rest m (first ∷ text) = with_mark m (read_record (first ∷ text))

abbrev pub read_cell : List ℕ → Result Cell PhcError
read_cell text = read_rest (mark_of text) (rest_of text)

-- ---- a book and its marks

-- the mark of each name
abbrev pub AllMarks : Type 0
AllMarks = List ℕ → Mark

-- the book with the marks that its names have
unfoldable pub cells_of : Accounts → AllMarks → Cells
cells_of book marks = fin.from_sorted (map (λ e. (e.0, cell e.1 (marks e.0))) (fin.entries book))

-- the cell of a name; a blank cell if the book lacks the name
abbrev pub cell_in : Cells → List ℕ → Cell
cell_in cells name = unwrap_or (fin.get cells name) blank

abbrev pub mark_in : Cells → List ℕ → Mark
mark_in cells name = (cell_in cells name).mark

abbrev pub stored_in : Cells → List ℕ → Option RecordValue
stored_in cells name = (cell_in cells name).stored

-- the cell of a name after it gets this record, or none
abbrev pub renewal : Cells → List ℕ → Option RecordValue → Cell
renewal cells name stored = cell stored (renewed (mark_in cells name))

-- the cell of a name after it gets this mark
abbrev pub marking : Cells → List ℕ → Mark → Cell
marking cells name m = cell (stored_in cells name) m

-- the marks of those names that have one
abbrev pub Marks : Type 0
Marks = fin.FinMap name_cmp Mark

abbrev pub mark_at : Marks → AllMarks
mark_at marks name = unwrap_or (fin.get marks name) unmarked

-- this mark is the name's, and other marks stay
abbrev pub marked : AllMarks → List ℕ → Mark → AllMarks
marked marks name m q = cond (eq_by_cmp name_cmp q name) m (marks q)
