use Rattle.cred_file.proofs.Keeping.{changes, delete_step}
use Rattle.cred_file.proofs.statements.delete_row.Goals as goal

pub returns : goal.returns
returns g c =
    changes g.S.Store c.args.conn.now c.execute.new.self (λ book there. delete_step book c.args.name.now there) (λ e is. is) c.execute.result (g.met.S.Store.settled c.execute.new.self.store)
    (rw c.bytes.ensures.value at c.execute.ensures.runs) (rw c.bytes.ensures.value at c.execute.ensures.survives)
