use Rattle.std.proofs.Common.{Some, ap, is_some, refl, sym, ◌∙◌}
use Rattle.cred_book.specs.Names.{name_cmp}
use Rattle.cred_book.proofs.Registered.{sorted_of}
use Rattle.cred_file.specs.Cells.{mark_at}
use Rattle.cred_file.proofs.Marked.{has, marked_same, none_at, still, written}
use Rattle.cred_file.proofs.marks.Marks.hold.Goals as goal

pub invariant_of-self-2 : goal.invariant_of-self-2
invariant_of-self-2 c = sorted_of name_cmp _ c.insert.ensures.ordered

pub returns-clause-held : goal.returns-clause-held
returns-clause-held c = sym (has c.insert.new.self.entries (sorted_of name_cmp _ c.insert.ensures.ordered) _ refl c.args.name.now) ∙ ap is_some c.in-Ok.ensures.updates.1

pub returns-clause-same : goal.returns-clause-same
returns-clause-same c =
    written _ c.self.invariant _ c.self.view_is c.insert.new.self.entries (sorted_of name_cmp _ c.insert.ensures.ordered) c.args.name.now (Some c.none.result) c.in-Ok.ensures.updates.0
    ∙ marked_same (mark_at c.args.self.now) c.args.name.now c.none.result (none_at c.args.self.now c.args.name.now (sym c.if-holds.ensures) ∙ sym c.none.ensures)

pub returns-clause-room : goal.returns-clause-room
returns-clause-room c = still _ c.self.invariant _ c.self.view_is c.insert.new.self.entries (sorted_of name_cmp _ c.insert.ensures.ordered) c.args.name.now c.none.result c.in-Ok.ensures.updates.0
