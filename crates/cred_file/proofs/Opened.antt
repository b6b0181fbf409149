-- The book that is opened from files is the book of the files' database.
use Rattle.std.proofs.Common.{◌≡◌, ap, subst, ◌∙◌}
use Rattle.cred_file.specs.Cells.{Cells}
use Rattle.cred_file.specs.{Keeps.HoldsBook, Opening.IsFound, Table.StandsFor}
use Rattle.sqlite.specs.{Files.HoldsDatabase, Start.FindsIn, State.IsLive, State.Opens, State.State, Tree.Trees}
use Rattle.sqlite_catalog.specs.Listing.{IsSound}

pub held : (image : _) (old new : State) (book : Cells) → Opens old → IsLive old → FindsIn image old → IsFound old new book → (db : Trees) → HoldsDatabase image db → HoldsBook db book
held image old new book opens live finds found db holds =
    let same : old.now.trees ≡ db = ap (λ d. d.trees) opens.clean ∙ finds.holds db holds in
    let sound : IsSound old.now.schema old.now.trees = (live opens.is_open).0 in
    record {
      schema = old.now.schema;
      of_book = found.schema;
      sound = subst (IsSound old.now.schema) same sound;
      stands = subst (λ t. StandsFor (t 0) book) same found.stands;
    }
