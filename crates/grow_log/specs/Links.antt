-- The rule of the words behind a log, and the facts that its steps tell.
--
-- A log is kept as links: each names the place, a word with a key, where the next link goes. Only
-- the holder of the last place's pen can add a link, by bringing its word home.
use Rattle.std.specs.Prelude.{ℕ, ◌≡◌, ◌==◌, ◌<◌, Bool, true, List, [], ◌∷◌, ◌++◌, length, MatchBool, Option, Some, None}
use mathlib.Core.List.{IsPrefix}
use Rattle.logbook.specs.Pages.{Cell, Step, View, Book, Nib, Named, cell, may_make, may_write}
use Rattle.grow_log.specs.declared.link.Link.{Link}

-- ---- links

abbrev pub link : {T : Type 0} → Option T → ℕ → Link T
link entry next = record { entry = entry; next = next }

abbrev pub with_entries : {T : Type 0} → Option T → List T → List T
with_entries None entries = entries
with_entries (Some entry) entries = entry ∷ entries

-- the entries of the links that have one
abbrev pub entries_of : {T : Type 0} → List (Link T) → List T
entries_of [] = []
entries_of (l ∷ links) = with_entries l.entry (entries_of links)

-- the place where the next link goes, by the place of the first one
abbrev pub place_after : {T : Type 0} → ℕ → List (Link T) → ℕ
place_after place [] = place
place_after place (l ∷ links) = place_after l.next links

-- the place of the first link of all
abbrev pub first_place : ℕ
first_place = 1

-- ---- words

abbrev pub is_home : List Cell → ℕ → Bool
is_home cells key = (cell cells key).1

-- each link's word is at home
abbrev pub AreHome : {T : Type 0} → List Cell → ℕ → List (Link T) → Type 0
AreHome cells place [] = Unit {0}
AreHome cells place (l ∷ links) = (is_home cells place ≡ true) × AreHome cells l.next links

-- the first word is 0 while there is no link. It and the second one, the first link's, are at home
-- from the start
pub record IsKept {T : Type 0} (cells : List Cell) (links : List (Link T)) : Type 0 where
  pub two : 1 < length cells
  pub first : is_home cells 0 ≡ true
  pub second : is_home cells first_place ≡ true
  pub begun : (cell cells 0).0 ≡ 0 → links ≡ []
  pub home : AreHome cells first_place links

abbrev pub head_of : Book → Named
head_of b = record { tracked = true; key = 0; book = b }

-- a pen that may write the word after these links
abbrev pub IsPenAfter : {T : Type 0} → List (Link T) → Nib → Type 0
IsPenAfter links pen = (pen.right ≡ may_write) × (pen.key ≡ place_after first_place links)

-- ---- steps

-- the step made a place
abbrev pub Reserves : {T : Type 0} → Step (Link T) → View (Link T) ℕ → ℕ
    → View (Link T) ℕ → Type 0
Reserves s v found w = w.1.0.right ≡ may_make

-- the step added the first link, if there was none
abbrev pub Begins : {T : Type 0} → Step (Link T) → View (Link T) ℕ → ℕ
    → View (Link T) ℕ → Type 0
Begins s v found w = MatchBool (found == 0) (w.0 ≡ s.ask ∷ []) (Unit {0})

-- the step added a link, and nobody had added one that it hadn't seen
abbrev pub Fills : {T : Type 0} → Step (Link T) → View (Link T) ℕ → ℕ
    → View (Link T) ℕ → Type 0
Fills s v found w = w.0 ≡ v.0 ++ s.ask ∷ []

-- the list that was seen is as long as the list after which the pen writes
abbrev pub Looks : {T : Type 0} → Step (Link T) → View (Link T) ℕ → ℕ
    → View (Link T) ℕ → Type 0
Looks s v found w = (w.1.0 ≡ v.1.0)
    × ((links : List _) → IsPrefix links v.0 → v.1.0.key ≡ place_after first_place links
    → links ≡ v.0)
