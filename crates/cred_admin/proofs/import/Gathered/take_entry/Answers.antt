use Rattle.std.proofs.Common.{Err, subst, sym}
use Rattle.cred_book.specs.{Accounts.register_capacity, Calls.EntersWithin}
use Rattle.cred_admin.proofs.Tallies.{one_too_many}
use Rattle.cred_admin.proofs.import.Gathered.take_entry.Goals as goal

pub returns-in-Err-Full : goal.returns-in-Err-Full
returns-in-Err-Full c =
    let full = subst (λ e. EntersWithin register_capacity c.args.self.now.accounts c.enter.new.self c.args.entry.name c.args.entry.stored (Err e)) c.in-Err-Full.field-0-is c.in-Err-Full.ensures.done in
    one_too_many _ _ _ _ _ c.args.entry (sym c.if-contains.ensures) full.0 full.1
