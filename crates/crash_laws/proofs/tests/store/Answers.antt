use Rattle.std.proofs.Common.{refl, sym, ◌∙◌}
use Rattle.sqlite_trees.specs.View.{doubt}
use Rattle.crash_laws.proofs.tests.store.Goals as goal

pub returns : goal.returns
unfolding doubt
returns g c =
    let back = c.into_store.ensures.undone in
    record {
      sound = (back.undone refl).1;
      numbered = refl;
      clean = (back.undone refl).0 ∙ sym ((back.kept refl).committed refl);
      unmarked = (back.kept refl).marks refl;
    }
