use Rattle.std.proofs.Common.{◌≡◌, OnOk, subst}
use Rattle.cred_file.specs.Cells.{mark_at}
use Rattle.cred_file.proofs.JoinedCells.{taken_bare}
use Rattle.cred_file.proofs.file_book.FileBook.replace_all.Goals as goal

pub returns-clause-marks : goal.returns-clause-marks
returns-clause-marks g c =
    subst (λ n. OnOk c.take_in.result (mark_at c.take_in.new.self.marks ≡ n))
    (taken_bare (mark_at c.args.self.now.marks) c.new-none.result c.args.changed c.new-unmarked.result c.new-none.ensures c.new-unmarked.ensures) c.take_in.ensures.marks
