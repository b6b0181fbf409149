use Rattle.std.proofs.Common.{◌≡◌, IsTrue, false, not, refl, sym, ap, subst, ◌∙◌}
use Rattle.sqlite.specs.{Effect.Database, Held.state}
use Rattle.cred_file.specs.{Cells.cells_of, Cells.mark_at, Schema.IsBookSchema, Table.StandsFor}
use Rattle.cred_file.proofs.Selected.{as_before, is_table}
use Rattle.cred_file.proofs.statements.read_table.Goals as goal

pub returns-clause-found : goal.returns-clause-found
returns-clause-found g c clean =
    let same = c.in_ok-book.ensures.same clean in
    record {
      schema = c.requires.schema;
      stands = c.in_ok-book.ensures.stands clean;
      same = as_before (state g.S.Store c.args.conn.now) (state g.S.Store c.read_rows.new.conn) same;
    }

pub returns-clause-table : goal.returns-clause-table
returns-clause-table g c clean =
    let old = state g.S.Store c.args.conn.now in
    let new = state g.S.Store c.read_rows.new.conn in
    let book = cells_of c.in_ok-book.book.0 (mark_at c.in_ok-book.book.1) in
    let same = c.in_ok-book.ensures.same clean in
    let autocommit : new.in_transaction ≡ false = same.0.mode ∙ c.requires.autocommit in
    let rests : IsTrue c.is_autocommit-at_rest.result = subst IsTrue (sym (c.is_autocommit-at_rest.ensures.value ∙ ap not autocommit)) refl in
    is_table new book (g.met.S.Store.settled c.read_rows.new.conn.store) same.0.is_open autocommit (c.is_autocommit-at_rest.ensures.settled rests same.0.is_open)
    (c.schema-sound.ensures.live same.0.is_open).0 (subst (λ (d : Database). IsBookSchema d.schema) (sym same.0.now_is) c.requires.schema) (subst (λ (d : Database). StandsFor (d.trees 0) book) (sym same.0.now_is) (c.in_ok-book.ensures.stands clean))
