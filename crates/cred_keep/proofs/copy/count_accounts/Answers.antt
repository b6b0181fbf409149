use Rattle.std.proofs.Common.{ap, sym, ◌∙◌}
use Rattle.std.specs.FinMap as map
use Rattle.cred_book.specs.Accounts.{Accounts}
use Rattle.cred_file.specs.Kept.{cells}
use Rattle.cred_file.proofs.CellLaws.{len_cells}
use Rattle.cred_keep.proofs.copy.count_accounts.Goals as goal

pub returns-in-Ok-clause-found : goal.returns-in-Ok-clause-found
returns-in-Ok-clause-found g c =
    rw c.close.ensures.same (λ clean. (cells c.in-Ok.book, c.in-Ok.ensures.found clean, c.len-count.ensures.len ∙ ap (λ (b : Accounts). map.len b) c.book.ensures ∙ sym (len_cells _ c.in-Ok.book.book)))
