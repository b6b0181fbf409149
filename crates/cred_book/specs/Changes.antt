-- The change that work makes, and the book after its commit.
use Rattle.std.specs.Prelude.{ℕ, List, Bool, if◌then◌else◌, Option, Some, None}
use Rattle.std.specs.FinMap as map
use Rattle.cred_phc.specs.Values.{RecordValue}
use Rattle.cred_book.specs.{Accounts.Accounts, Works.Task, Works.name_of, Works.whole, Works.makes_change, declared.request.Change.Change}
use Rattle.cred_book.specs.declared.request.Reply.{Reply}

-- the change of an operation with this outcome, if it makes one
abbrev pub change_with : List ℕ → Reply × Option RecordValue → Option Change
change_with name outcome =
    if makes_change outcome.0
    then Some (record { name = name; after = outcome.1; reply = outcome.0 })
    else None

-- the change that work makes at the copied record, if it makes one
unfoldable pub change_of : Task → Option Change
change_of work = change_with (name_of work.0) (whole work.0 work.1)

-- the book after a judgement: changed at the one name, or as it was
abbrev pub judged_book : Accounts → Task → Reply × Option RecordValue × Bool → Accounts
judged_book book work judgement =
    if judgement.2 then map.insert book (name_of work.0) judgement.1 else book
