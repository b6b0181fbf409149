use Rattle.cred_file.proofs.Keeping.{changes, rename_step}
use Rattle.cred_file.proofs.statements.rename_row.Goals as goal

pub returns : goal.returns
returns g c =
    changes g.S.Store c.args.conn.now c.execute.new.self (λ book fits. rename_step book c.args.name.now c.args.other.now c.bytes-2.ensures.is_name fits) (λ e is. is) c.execute.result (g.met.S.Store.settled c.execute.new.self.store)
    (rw (c.bytes.ensures.value, c.bytes-2.ensures.value) at c.execute.ensures.runs) (rw (c.bytes.ensures.value, c.bytes-2.ensures.value) at c.execute.ensures.survives)
