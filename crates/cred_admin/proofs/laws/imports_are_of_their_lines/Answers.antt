use Rattle.cred_admin.specs.Import.{nothing_yet}
use Rattle.cred_admin.proofs.Imported.{absent_not_changed, first_changed, first_mark, first_new, free_at_first, free_lines, there_not_new}
use Rattle.cred_admin.proofs.laws.imports_are_of_their_lines.Goals as goal

pub returns-clause-added : goal.returns-clause-added
returns-clause-added c = λ rules book text e first absent. rw first.cut (first_new rules book e first.line first.rest nothing_yet 1 first.front first.says first.first absent (free_at_first e.name)).0

pub returns-clause-changed : goal.returns-clause-changed
returns-clause-changed c = λ rules book text e first there how. rw first.cut (first_changed rules book e first.line first.rest nothing_yet 1 first.front first.says first.first there how (free_at_first e.name)).0

pub returns-clause-marks : goal.returns-clause-marks
returns-clause-marks c = λ rules book text e first taken. rw first.cut (first_mark rules book e first.line first.rest nothing_yet 1 first.front first.says first.first (free_at_first e.name) taken)

pub returns-clause-others : goal.returns-clause-others
returns-clause-others c = λ rules book text name none.
    let free = free_lines rules book name nothing_yet 1 _ none (free_at_first name) in
    (free.new, free.changed, free.mark)

pub returns-clause-there : goal.returns-clause-there
returns-clause-there c = λ rules book text name there. there_not_new rules book name 1 _ there

pub returns-clause-absent : goal.returns-clause-absent
returns-clause-absent c = λ rules book text name absent. absent_not_changed rules book name 1 _ absent
