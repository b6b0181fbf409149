use Rattle.std.proofs.Common.{◌≡◌, ◌++◌, sym, ap, rules, ◌∙◌, Ok}
use Rattle.cred_phc.specs.{Text.record_text, Values.IsRecord}
use Rattle.cred_file.specs.Cells.{cell, mark_text, read_cell}
use Rattle.cred_file.proofs.CellLaws.{read_marked}
use Rattle.cred_file.proofs.statements.text_of.Goals as goal

pub returns : goal.returns
returns c blank =
    let it = c.in-Some.it in
    let items : c.extend_from_slice-2.new.self.items ≡ mark_text c.args.mark ++ record_text it = search rules in
    let ranges : IsRecord it = search rules in
    ap read_cell items ∙ read_marked c.args.mark it ranges ∙ ap (λ s. Ok (cell s c.args.mark)) (sym c.in-Some.is)
