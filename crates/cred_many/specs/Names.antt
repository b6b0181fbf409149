-- The answers to lines that list names.
use Rattle.std.specs.{List.filter, Ordering.is_lt, Prelude.ℕ, Prelude.List, Prelude.[], Prelude.◌∷◌, Prelude.◌++◌, Prelude.◌&&◌, Prelude.Bool, Prelude.not, Prelude.codes, Prelude.take}
use Rattle.cred_book.specs.Names.{name_cmp}
use Rattle.cred_file.specs.{Cells.is_marked, Cells.mark_text, declared.marks.Mark.Mark}

-- of names in their order, the first ones that don't come before this one, at most so many
abbrev pub page : List ℕ → ℕ → List (List ℕ) → List (List ℕ)
page from most names = take most (filter (λ name. not (is_lt (name_cmp name from))) names)

-- a space before each
unfoldable pub spaced : List (List ℕ) → List ℕ
spaced [] = []
spaced (name ∷ names) = 32 ∷ name ++ spaced names

-- `names NAME NAME ..`, with the line end
abbrev pub names_line : List (List ℕ) → List ℕ
names_line names = (codes "names" ++ spaced names) ++ 10 ∷ []

-- ---- with their marks

-- the name has a mark, and doesn't come before this one
abbrev pub is_listed : (List ℕ → Mark) → List ℕ → List ℕ → Bool
is_listed mark from name = is_marked (mark name) && not (is_lt (name_cmp name from))

-- of names in their order, the first ones of that kind, so many at most
abbrev pub marked_page : (List ℕ → Mark) → List ℕ → ℕ → List (List ℕ) → List (List ℕ)
marked_page mark from most names = take most (filter (is_listed mark from) names)

-- the names, each after a space and before a colon (byte 58) and its mark as the book's file has it
unfoldable pub spaced_marks : (List ℕ → Mark) → List (List ℕ) → List ℕ
spaced_marks mark [] = []
spaced_marks mark (name ∷ names) =
    (32 ∷ name ++ 58 ∷ mark_text (mark name)) ++ spaced_marks mark names

-- `marks NAME:MARK NAME:MARK ..`, with the line end
abbrev pub marks_line : (List ℕ → Mark) → List (List ℕ) → List ℕ
marks_line mark names = (codes "marks" ++ spaced_marks mark names) ++ 10 ∷ []
