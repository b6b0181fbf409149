-- A book: a finite map from names to at most one record each.
use Rattle.std.specs.Prelude.{ℕ, ◌≤◌, List, length, Option, T, nat_lt, ◌||◌, if◌then◌else◌}
use Rattle.std.specs.FinMap as map
use Rattle.cred_phc.specs.Values.{RecordValue}
use Rattle.cred_book.specs.Names.{name_cmp}

abbrev pub Accounts : Type 0
Accounts = map.FinMap name_cmp (Option RecordValue)

-- the number of names that a Book can have
abbrev pub book_capacity : ℕ
book_capacity = 4096

-- a record or none is put at a name; a new name is added while there is room
abbrev pub with_entry : Accounts → List ℕ → Option RecordValue → Accounts
with_entry book name now =
    if map.contains_key book name || nat_lt (map.len book) book_capacity
    then map.insert book name now else book

-- a book as the code keeps it: entries in the order of their names, with room for all that may come
pub record IsKept (entries : List (List ℕ × Option RecordValue)) (capacity : ℕ) : Type 0 where
  pub sorted : T (map.is_sorted name_cmp entries)
  pub few : length entries ≤ book_capacity
  pub room : book_capacity ≤ capacity

-- the number of names that a register may have
abbrev pub register_capacity : ℕ
register_capacity = 16777216

-- a book as a register keeps it: entries in the order of their names, and not too many
pub record IsRegister (entries : List (List ℕ × Option RecordValue)) : Type 0 where
  pub sorted : T (map.is_sorted name_cmp entries)
  pub few : length entries ≤ register_capacity
