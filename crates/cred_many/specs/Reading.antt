-- The place of the reading thread in its input, and the end of this thread. No public clause
-- mentions these.
use Rattle.std.specs.Prelude.{◌≡◌, ℕ, ◌<◌, ◌≤◌, ◌^◌, List, [], ◌++◌, Bool, true, IfSome, Option, Some, None, length, take, slice_get}
use Rattle.cred_cli.specs.{Events.most_kept, Feeding.unfinished_from, Script.line_ends, Script.lines_of}
use Rattle.cred_many.specs.{declared.ending.End.End, declared.ending.End.TheVariants.Failed, declared.ending.End.TheVariants.Whole}
use Rattle.cred_many.specs.declared.ending.End.TheVariants.{Memory, Threads, TooLong, Untaken}

-- the start of the line that has no end yet, and how many lines came before it
pub record Place : Type 0 where
  pub start : List ℕ
  pub number : ℕ

abbrev pub place : List ℕ → ℕ → Place
place start number = record { start = start; number = number }

-- a front of all came, and the rest is left
pub record Splits (all : List ℕ) (at : Place) (rest : List ℕ) : Type 0 where
  pub front : List ℕ
  pub cut : all ≡ front ++ rest
  pub start_is : at.start ≡ take most_kept (unfinished_from [] front)
  pub number_is : at.number ≡ line_ends front

-- these bytes come next
abbrev pub ComesNext : Option (List ℕ) → Place → List ℕ → Type 0
ComesNext input at bytes = (all : List ℕ) → input ≡ Some all
    → (rest : List ℕ) × Splits all at (bytes ++ rest)

-- nothing comes next
abbrev pub NothingIsLeft : Option (List ℕ) → Place → Type 0
NothingIsLeft input at = (all : List ℕ) → input ≡ Some all → Splits all at []

-- the place moves over these bytes from wherever they come next
abbrev pub MovesOver : Option (List ℕ) → Place → List ℕ → Place → Type 0
MovesOver input old bytes new = (all rest : List ℕ) → input ≡ Some all
    → Splits all old (bytes ++ rest) → Splits all new rest

-- the line of this number ends at this place, though perhaps not all of the line is kept
abbrev pub IsWholeLine : List ℕ → Place → Type 0
IsWholeLine bytes at = (line : List ℕ) × (slice_get (lines_of bytes) at.number ≡ Some line)
    × (at.start ≡ take most_kept line) × (at.number < line_ends bytes)

-- the line of this number is the last one, and has no end
abbrev pub IsCutLine : List ℕ → ℕ → Type 0
IsCutLine bytes number = (line : List ℕ) × (slice_get (lines_of bytes) number ≡ Some line)
    × (number ≡ line_ends bytes)

-- one or none
abbrev pub how_many : {A : Type 0} → Option A → ℕ
how_many None = 0
how_many (Some x) = 1

-- the reading may end so if these bytes are the input, where the function tells the failure of a
-- source
abbrev pub IsEnd : {S : Type 0} → Option (List ℕ) → (S → Bool) → End S → Type 0
IsEnd input failed (Whole lines) = IfSome input (λ all. lines ≡ length (lines_of all))
IsEnd input failed (Failed source) = failed source ≡ true
IsEnd input failed TooLong = IfSome input (λ all. 2 ^ 63 ≤ length (lines_of all))
IsEnd input failed (Untaken gone) = Unit {0}
IsEnd input failed Threads = Unit {0}
IsEnd input failed Memory = Unit {0}

-- a whole reading handed out so many lines
abbrev pub HasHanded : {S : Type 0} → End S → ℕ → Type 0
HasHanded (Whole lines) handed = lines ≡ handed
HasHanded _ handed = Unit {0}

-- the end is that of a reading that began
abbrev pub IsOfReading : {S : Type 0} → End S → Type 0
IsOfReading Threads = ⊥
IsOfReading Memory = ⊥
IsOfReading _ = Unit {0}
