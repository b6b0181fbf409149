-- Rows stand for one book, and so the next run opens the book that was kept.
use Rattle.std.proofs.Common.{◌≡◌, List, map, Option, Ok, Err, Result, IfErr, sym, ap, subst, ◌∙◌}
use Rattle.std.specs.FinMap as fin
use Rattle.sqlite.specs.{Order.Row, Tree.Trees, Held.Held, Held.state, Store.Ghosts, State.HasCleanDisk}
use Rattle.cred_file.specs.Cells.{Cells}
use Rattle.cred_file.specs.{declared.fault.Lost.Lost, Table.Says, Table.entry_of, Table.StandsFor, Keeps.Keeps, Keeps.IsOrWith}
use Rattle.cred_file.proofs.TableLemmas.{all_once, said_once}

pub stands_once : (rows : List Row) (a b : Cells) → StandsFor rows a → StandsFor rows b → a ≡ b
stands_once rows a b s t = sym s.book_is ∙ ap fin.from_entries (ap (map entry_of) (all_once Says said_once rows s.lines t.lines s.each t.each)) ∙ t.book_is

-- the book that stands in what a crash left is one that was kept
pub found_again : {S : Type 0} (g : Ghosts S) (conn : Held S) (book again : Cells) (lost : Option Lost) → Keeps g conn book lost → HasCleanDisk (state g conn)
    → (db : Trees) → g.recovers conn.store db → StandsFor (db 0) again → IsOrWith book lost again
found_again g conn book again lost keeps clean db may stands =
    let l = keeps.left clean db may in
    subst (IsOrWith book lost) (stands_once (db 0) l.0 again l.2.stands stands) l.1

-- of an error with two facts
pub of_err : {A E : Type 0} (P Q R : E → Type 0) (r : Result A E) → ((e : E) → P e → Q e → R e) → IfErr r P → IfErr r Q → IfErr r R
of_err P Q R (Ok a) f p q = p
of_err P Q R (Err e) f p q = f e p q
