-- The reasons why a copy of a book isn't created, and what a crash leaves of a copy.
use Rattle.std.specs.Prelude.{◌≡◌, ◌≢◌, ◌⊎◌}
use Rattle.std.specs.FinMap as fin
use Rattle.sqlite.specs.{Held.Held, Held.state, State.State, Store.Ghosts, Tree.Trees}
use Rattle.cred_file.specs.Cells.{Cells}
use Rattle.cred_file.specs.declared.fault.OpenFault.{OpenFault}
use Rattle.cred_file.specs.declared.fault.OpenFault.TheVariants as fault
use Rattle.cred_file.specs.{Keeps.HoldsBook, Schema.no_schema}

-- There is a table already, and the connection is as it was; or memory ran out, or the database
-- failed.
abbrev pub IsUncopied : {S : Type 0} → Ghosts S → Held S → Held S → OpenFault → Type 0
IsUncopied g old new fault.NotEmpty = ((state g old).now.schema ≢ no_schema) × (new ≡ old)
IsUncopied g old new fault.Memory = (state g old).now.schema ≡ no_schema
IsUncopied g old new (fault.Database e) = (state g old).now.schema ≡ no_schema
IsUncopied g old new _ = ⊥

-- a crash leaves what it could leave before, an empty book, or the whole copy
abbrev pub MayCopy : State → State → Cells → Type 0
MayCopy old new book = (db : Trees) → new.may_leave db
    → old.may_leave db ⊎ (HoldsBook db fin.empty ⊎ HoldsBook db book)
