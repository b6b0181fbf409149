-- What proofs see of a command.
use Rattle.std.specs.Prelude.{◌≡◌, List, ◌++◌, ℕ, false}
use Rattle.cred_admin.specs.Marked.{MarkedBook}
use Rattle.cred_cli.specs.Watched.{Basis, Contract, Fits, Reading, Transcript, Writing, ended_of, given_of}
use Rattle.cred_cli.specs.declared.watched.Watched.{Watched}

-- its reader, its writer, and the book before and after
pub record Seen : Type 0 where
  pub reading : Reading
  pub writing : Writing
  pub old : MarkedBook
  pub new : MarkedBook

abbrev pub seen : Reading → Writing → MarkedBook → MarkedBook → Seen
seen r w old new = record { reading = r; writing = w; old = old; new = new }

-- a transcript tells where lines end only if the reader wasn't at its end before
abbrev pub FitsSince : Basis → {R : Type 0} → Watched R → Watched R → Type 0
FitsSince Contract old new = Unit {0}
FitsSince (Transcript all) old new = (ended_of old ≡ false) × Fits (Transcript all) new

-- the reader gave some bytes in between
abbrev pub GivesMore : {R : Type 0} → Watched R → Watched R → Type 0
GivesMore old new = (bytes : List ℕ) × (given_of new ≡ given_of old ++ bytes)
