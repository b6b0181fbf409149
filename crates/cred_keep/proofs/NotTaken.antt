-- The effect of an import from the result of its lines.
use Rattle.std.proofs.Common.{◌≡◌, false, ℕ, ◌+◌, ◌<◌, List, IfSome, Err, subst}
use Rattle.std.specs.FinMap as map
use Rattle.cred_book.specs.Accounts.{Accounts, register_capacity}
use Rattle.cred_file.specs.Cells.{AllMarks}
use Rattle.cred_admin.specs.{Import.tally, Marked.MarkedBook, declared.import.ImportFault.ImportFault}
use Rattle.cred_admin.specs.declared.import.ImportFault.TheVariants as fault
use Rattle.cred_cli.specs.Watched.{Reading}
use Rattle.cred_keep.specs.{Imports.Imports, Imports.Takes, declared.import.Importing.Importing}

pub not_taken : (how : Importing) (r : Reading) (old new : MarkedBook) (added changed : Accounts) (given : AllMarks) (text : List ℕ) → r.failed ≡ false → IfSome r.input (λ bytes. text ≡ bytes) → added ≡ (tally how.rules old.accounts text).accounts → (e : ImportFault)
    → Takes how.effect old new added changed given (Err e) → Imports how r old new (Err e)
not_taken how r old new added changed given text kept is same fault.Full h = (text, is, subst (λ (a : Accounts). register_capacity < map.len old.accounts + map.len a) same h.0, h.1)
not_taken how r old new added changed given text kept is same fault.Memory h = (kept, h)
not_taken how r old new added changed given text kept is same fault.Read h = absurd h
not_taken how r old new added changed given text kept is same (fault.Lines bad) h = absurd h
