use Rattle.std.proofs.Common.{rules, ◌≡◌, Some}
use Rattle.std.specs.FinMap as map
use Rattle.cred_admin.proofs.Renaming.{disabled}
use Rattle.cred_admin.proofs.account_operation.disable.Goals as goal

pub returns-in-Ok : goal.returns-in-Ok
returns-in-Ok g c =
    let found : map.get c.args.book.now.book c.args.name.now ≡ Some (Some c.in-Ok-Some.field-0-0) = search rules in
    disabled _ _ _ _ _ _ _ found c.in-Ok.ensures.done.1 c.in-Ok.ensures.marks
