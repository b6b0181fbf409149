-- A run over a store: what is left of the book that the store held.
use Rattle.std.proofs.Common.{◌≡◌, ◌≤◌, arith, inl, List, [], None, refl, subst, sym}
use Rattle.sqlite.specs.{Held.state, State.HasCleanDisk, Store.Ghosts, Tree.Trees}
use Rattle.sqlite_trees.specs.View.{IsClean, IsQuiet, doubt}
use Rattle.cred_file.specs.{Kept.Kept, Kept.cells, Table.StandsFor}
use Rattle.cred_file.specs.Keeps.{HoldsBook, Keeps}
use Rattle.cred_file.proofs.FoundAgain.{stands_once}
use Rattle.crash_laws.specs.Crashes.{AreMade, Asked, IsLeft, IsRun, after}
use Rattle.crash_laws.proofs.Made.{left_of_made}

module _ {M : Type 0} (g : Ghosts M) (first last : M) where
  -- one that asked for nothing, since no book was opened
  pub run_unopened : doubt (g.view first).is_clean ≤ doubt (g.view last).is_clean → (IsClean (g.view last) → (db : Trees) → g.recovers last db → db ≡ (g.view first).committed) → IsRun g first last []
  unfolding after
  run_unopened clean same = record {
    clean = clean;
    left = λ now book held db may. (book, inl refl, subst (λ (t : Trees). HoldsBook t book) (sym (same now db may)) held, λ few. few);
  }

  -- one that changed the book that it opened
  pub run_opened : (old new : Kept M) (asked : List Asked) → doubt (g.view first).is_clean ≤ doubt (state g old.conn).is_clean → (HasCleanDisk (state g old.conn) → StandsFor ((g.view first).committed 0) (cells old)) → old.lost ≡ None
      → AreMade g old new asked → Keeps g new.conn (cells new) new.lost → IsQuiet g.view g.faults g.recovers g.is_shielded new.conn.store last → IsRun g first last asked
  run_opened old new asked before found whole made keeps quiet = record {
    clean = omega (arith, before, made.clean, quiet.clean);
    left = λ now book held db may.
        let late : HasCleanDisk (state g new.conn) = omega (arith, now, quiet.clean) in
        let early : HasCleanDisk (state g old.conn) = omega (arith, late, made.clean) in
        let same = stands_once _ (cells old) book (found early) held.stands in
        let l = keeps.left late db (quiet.outcomes db may) in
        (l.0, subst (λ b. IsLeft b asked l.0) same (left_of_made g old new asked l.0 made whole l.1), l.2, λ few. keeps.few l.0 l.1);
  }
