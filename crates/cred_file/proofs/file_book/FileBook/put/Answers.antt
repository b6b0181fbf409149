use Rattle.std.proofs.Common.{ap, rules, sym, ◌∙◌}
use Rattle.std.specs.FinMap as fin
use Rattle.cred_file.specs.Cells.{mark_at}
use Rattle.cred_file.proofs.{CellLaws.mark_absent, CellLaws.mark_here, CellLaws.renewal_absent, Keeping.put_entered}
use Rattle.cred_file.proofs.file_book.FileBook.put.Goals as goal

pub returns-then-contains-clause-remembers : goal.returns-then-contains-clause-remembers
returns-then-contains-clause-remembers g c =
    let kept = c.replace.ensures.remembers in record { made = kept.made; written = kept.written; loses = search rules }

pub returns-else-contains-clause-done : goal.returns-else-contains-clause-done
returns-else-contains-clause-done g c = search (rules, put_entered)

pub returns-else-contains-clause-remembers : goal.returns-else-contains-clause-remembers
returns-else-contains-clause-remembers g c =
    let kept = c.enter.ensures.remembers in
    let absent = ap (λ v. fin.contains_key v.book c.args.name.now) (sym c.self.view_is) ∙ sym c.if-contains.ensures in
    let it = renewal_absent (mark_at c.args.self.now.marks) c.args.self.now.book c.args.name.now c.args.stored absent in
    record { made = kept.made; written = kept.written; loses = rw it (search rules) }

pub returns-then-contains-clause-marks : goal.returns-then-contains-clause-marks
returns-then-contains-clause-marks g c =
    let mark = mark_here (mark_at c.args.self.now.marks) c.args.self.now.book c.args.name.now (ap (λ v. fin.contains_key v.book c.args.name.now) (sym c.self.view_is) ∙ sym c.if-contains.ensures) in
    rw mark (search rules)

pub returns-else-contains-clause-marks : goal.returns-else-contains-clause-marks
returns-else-contains-clause-marks g c =
    let mark = mark_absent (mark_at c.args.self.now.marks) c.args.self.now.book c.args.name.now (ap (λ v. fin.contains_key v.book c.args.name.now) (sym c.self.view_is) ∙ sym c.if-contains.ensures) in
    rw mark (search rules)
