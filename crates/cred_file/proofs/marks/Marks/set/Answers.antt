use Rattle.std.proofs.Common.{sym}
use Rattle.cred_file.specs.Cells.{mark_at}
use Rattle.cred_file.proofs.Marked.{marked_same, unset}
use Rattle.cred_file.proofs.marks.Marks.set.Goals as goal

pub returns-then-not-holds-clause-marks : goal.returns-then-not-holds-clause-marks
returns-then-not-holds-clause-marks c =
    sym (marked_same (mark_at c.args.self.now) c.args.name.now c.args.mark (unset c.args.self.now c.args.name.now c.args.mark c.requires (sym c.if-not-holds.ensures)))
