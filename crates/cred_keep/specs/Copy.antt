-- The reasons why a book isn't written into another database.
use Rattle.std.specs.Prelude.{◌≡◌}
use Rattle.sqlite.specs.{Held.Held, Held.state, State.HasCleanDisk, Store.Ghosts}
use Rattle.cred_file.specs.Cells.{Cells}
use Rattle.cred_file.specs.{Copies.IsUncopied as IsUnmade, Copies.MayCopy, Opening.IsFound, Opening.IsUnopened}
use Rattle.cred_keep.specs.{declared.copy.CopyFault.CopyFault, declared.copy.CopyFault.TheVariants.Source, declared.copy.CopyFault.TheVariants.Target}

-- The target has a table already, and is as it was. Or the target failed, and a crash leaves what
-- it could leave before, an empty book, or this book.
abbrev pub IsUnwritten : {D : Type 0} → Ghosts D → Held D → Held D → Cells → CopyFault → Type 0
IsUnwritten h before after book (Source why) = ⊥
IsUnwritten h before after book (Target why) = IsUnmade h before after why
    × (HasCleanDisk (state h after) → MayCopy (state h before) (state h after) book)

-- The source has no book, and the target is as it was; or the target took no copy.
abbrev pub IsUncopied : {S D : Type 0} → Ghosts S → Held S → Held S → Ghosts D → Held D → Held D
    → CopyFault → Type 0
IsUncopied g old new h before after (Source why) =
    (HasCleanDisk (state g new) → IsUnopened (state g old) (state g new) why) × (after ≡ before)
IsUncopied g old new h before after (Target why) = (book : Cells)
    × (HasCleanDisk (state g new) → IsFound (state g old) (state g new) book)
    × IsUnwritten h before after book (Target why)
