use Rattle.sqlite.specs.Held.{state}
use Rattle.cred_file.specs.Cells.{cell}
use Rattle.cred_file.proofs.{Keeping.bound_told, Keeping.row_step, Within.within}
use Rattle.cred_file.proofs.transaction.write_stored.Goals as goal

pub returns-clause-written : goal.returns-clause-written
returns-clause-written g c clean first book suits was =
    let tells = c.value_of.ensures in
    let it = cell c.args.stored.now c.args.mark in
    within (row_step book c.args.name.now c.args.statement _ it c.bytes.ensures.is_name tells suits) (state g.S.Store c.args.tx.now.conn.now) (state g.S.Store c.execute.new.self.conn.now) first
    c.in_ok-execute.field-0 clean c.execute.ensures.survives was (rw (c.text.ensures, c.bytes.ensures.value, bound_told _ it tells) at (c.in_ok-execute.ensures.runs clean was.inside).0)
