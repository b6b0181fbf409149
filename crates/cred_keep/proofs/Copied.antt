-- A book that is written into another database.
use Rattle.sqlite.specs.{Held.Held, Held.state, State.HasCleanDisk, Store.Ghosts}
use Rattle.cred_file.specs.Cells.{Cells}
use Rattle.cred_file.specs.Opening.{IsFound}
use Rattle.cred_keep.specs.{Copy.IsUncopied, Copy.IsUnwritten, declared.copy.CopyFault.CopyFault, declared.copy.CopyFault.TheVariants.Source, declared.copy.CopyFault.TheVariants.Target}

-- the book was found, but the target didn't take it
pub uncopied : {S D : Type 0} (g : Ghosts S) (old new : Held S) (h : Ghosts D) (before after : Held D) (book : Cells) → (HasCleanDisk (state g new) → IsFound (state g old) (state g new) book) → (e : CopyFault) → IsUnwritten h before after book e → IsUncopied g old new h before after e
uncopied g old new h before after book found (Source why) none = absurd none
uncopied g old new h before after book found (Target why) held = (book, found, held)
