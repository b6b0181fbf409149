use Rattle.std.proofs.Common.{ap, sym, ◌∙◌}
use Rattle.cred_file.specs.Cells.{mark_at, marked}
use Rattle.cred_file.proofs.Marked.{not_marked}
use Rattle.cred_file.proofs.marks.Marks.put.Goals as goal

pub returns-then-not-is_marked : goal.returns-then-not-is_marked
returns-then-not-is_marked c = c.forget.ensures ∙ ap (marked (mark_at c.args.self.now) c.args.name.now) (sym (not_marked c.args.mark (sym (c.if-not-is_marked.ensures))))

pub returns : goal.returns
returns c = c.set.ensures.marks ∙ ap (λ m. marked m c.args.name.now c.args.mark) c.in_ok-hold.ensures.same
