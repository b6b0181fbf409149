-- What proofs see of the writer of a service, and the bytes that it takes.
use Rattle.std.specs.Prelude.{◌≡◌, ℕ, ◌<◌, List, [], ◌++◌, Option, None, length, take}
use Rattle.std.specs.Io.KnownBytes.{Appends}
use Rattle.cred_cli.specs.Watched.{inner_of, name_of, taken_of}
use Rattle.cred_cli.specs.declared.watched.Watched.{Watched}

-- A writer at a moment, a pipe or a terminal: its name; all the bytes that calls on it took; and
-- the bytes that it holds, if its contract names them.
pub record Written : Type 0 where
  pub name : ℕ
  pub taken : List ℕ
  pub held : Option (List ℕ)

abbrev pub written_of : {W : Type 0} → (W → Option (List ℕ)) → Watched W → Written
written_of contents writer = record {
  name = name_of writer;
  taken = taken_of writer;
  held = contents (inner_of writer);
}

-- the same writer took these bytes more, and holds them if that is known
pub record TakesMore (old new : Written) (bytes : List ℕ) : Type 0 where
  pub named : new.name ≡ old.name
  pub taken : new.taken ≡ old.taken ++ bytes
  pub held : Appends old.held new.held bytes

-- the writer took some of these bytes, but not all
abbrev pub TakesFront : Written → Written → List ℕ → Type 0
TakesFront old new bytes = (n : ℕ) × (n < length bytes) × TakesMore old new (take n bytes)

-- the state of no writer
abbrev pub nothing_written : Written
nothing_written = record { name = 0; taken = []; held = None }
