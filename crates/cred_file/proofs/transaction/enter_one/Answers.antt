use Rattle.std.proofs.Common.{◌∙◌, ap}
use Rattle.std.specs.FinMap as fin
use Rattle.cred_book.specs.Accounts.{Accounts}
use Rattle.cred_book.proofs.Rows.{remove_again}
use Rattle.cred_file.proofs.transaction.enter_one.Goals as goal

pub returns-in-Err-write_stored-clause-same : goal.returns-in-Err-write_stored-clause-same
returns-in-Err-write_stored-clause-same g c =
    let entered = c.in-Ok.ensures.done in
    c.remove.ensures ∙ ap (λ (b : Accounts). fin.remove b c.args.name.now) entered.2 ∙ remove_again c.args.book.now c.args.name.now c.args.stored.now entered.0
