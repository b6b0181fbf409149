use Rattle.sqlite_value.specs.Value.{owned}
use Rattle.cred_file.specs.Cells.{cell}
use Rattle.cred_file.proofs.Keeping.{bound_told, changes, row_step}
use Rattle.cred_file.proofs.statements.write_row.Goals as goal

pub returns : goal.returns
returns g c =
    let value = owned c.value_of.result in
    let tells = c.value_of.ensures in
    let it = cell c.args.stored.now c.args.mark in
    let bound = bound_told value it tells in
    changes g.S.Store c.args.conn.now c.execute.new.self (λ book suits. row_step book c.args.name.now c.args.statement value it c.bytes.ensures.is_name tells suits) (λ e is. (value, tells, is)) c.execute.result (g.met.S.Store.settled c.execute.new.self.store)
    (rw (c.text.ensures, c.bytes.ensures.value, bound) at c.execute.ensures.runs) (rw (c.text.ensures, c.bytes.ensures.value, bound) at c.execute.ensures.survives)
