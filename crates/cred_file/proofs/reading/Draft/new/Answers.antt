use Rattle.std.proofs.Common.{ap, refl, ◌∙◌}
use Rattle.cred_file.specs.Cells.{cells_of, mark_at}
use Rattle.cred_file.proofs.CellLaws.{no_cells}
use Rattle.cred_file.proofs.reading.Draft.new.Goals as goal

pub returns : goal.returns
returns c = (ap (λ b. cells_of b (mark_at c.new-2.result)) c.new.ensures ∙ no_cells (mark_at c.new-2.result), refl)
