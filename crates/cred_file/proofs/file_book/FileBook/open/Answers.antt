use Rattle.std.proofs.Common.{◌≤◌, subst, sym}
use Rattle.cred_book.specs.Accounts.{register_capacity}
use Rattle.cred_file.proofs.{CellLaws.len_cells, Keeping.keeps_first}
use Rattle.cred_file.proofs.file_book.FileBook.open.Goals as goal

pub invariant_of-result : goal.invariant_of-result
invariant_of-result g c = keeps_first g.S.Store _ _ (subst (λ n. n ≤ register_capacity) (sym (len_cells _ _)) c.in-Ok.ensures.few) c.in-Ok.ensures.table
