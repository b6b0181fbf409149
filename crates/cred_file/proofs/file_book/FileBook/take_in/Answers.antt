use Rattle.std.proofs.Common.{◌≡◌, ◌≤◌, ◌+◌, ap, subst, arith, rules, ◌∙◌}
use Rattle.std.specs.FinMap as fin
use Rattle.cred_book.specs.Accounts.{Accounts, register_capacity}
use Rattle.cred_file.specs.Cells.{cells_of, mark_at}
use Rattle.cred_file.specs.Kept.{cells}
use Rattle.cred_file.specs.{declared.fault.Attempt.TheVariants.TakeIn, Changes.MayTakeIn, Changes.after_attempt, Changes.taken_cells}
use Rattle.cred_file.proofs.{Keeping.keeps_done, Keeping.keeps_lost, Joined.len_taken, Joined.undone, JoinedCells.cells_taken, JoinedCells.len_taken_cells}
use Rattle.cred_file.proofs.file_book.FileBook.take_in.Goals as goal

pub invariant_of-self : goal.invariant_of-self
invariant_of-self g c =
    let book = c.self.inside.book in
    let marks = mark_at c.self.inside.marks in
    let old = cells_of book marks in
    let room : fin.len book + fin.len c.args.added ≤ register_capacity = c.if-not-has_room.ensures in
    let is = (λ i. cells_of (c.in-Ok.ensures.book i) (c.in-Ok.ensures.marks i)) ∙ cells_taken marks c.args.marks book c.args.added c.args.changed c.if-misses.ensures in
    keeps_done g.S.Store c.self.inside.conn c.take_together.new.conn old _ c.self.invariant c.if-is_some.ensures c.in-Ok.ensures.clean _ (taken_cells old c.args.added c.args.changed c.args.marks) is
    (omega (arith, len_taken_cells marks c.args.marks book c.args.added c.args.changed c.if-misses.ensures, len_taken book c.args.added c.args.changed c.if-misses.ensures, room)) c.in-Ok.ensures.taken

pub returns-in-Ok-clause-remembers : goal.returns-in-Ok-clause-remembers
returns-in-Ok-clause-remembers g c =
    let book = c.self.inside.book in
    let marks = mark_at c.self.inside.marks in
    let is = (λ i. cells_of (c.in-Ok.ensures.book i) (c.in-Ok.ensures.marks i)) ∙ cells_taken marks c.args.marks book c.args.added c.args.changed c.if-misses.ensures in
    record {
      made = is ∙ ap (λ k. after_attempt (cells k) (TakeIn c.args.added c.args.changed c.args.marks)) c.self.view_is;
      written = search rules;
      loses = search rules;
    }

pub invariant_of-self-in-Err : goal.invariant_of-self-in-Err
invariant_of-self-in-Err g c =
    let book = c.self.inside.book in
    let marks = mark_at c.self.inside.marks in
    let old = cells_of book marks in
    let room : fin.len book + fin.len c.args.added ≤ register_capacity = c.if-not-has_room.ensures in
    let back = undone book c.args.added c.take_together.new.book c.remove_all.new.book c.if-meets.ensures c.in-Err.ensures.part c.remove_all.ensures in
    keeps_lost g.S.Store c.self.inside.conn c.take_together.new.conn old _ c.self.invariant c.if-is_some.ensures c.in-Err.ensures.clean _ old (λ i. cells_of (back i) (c.in-Err.ensures.unmarked i)) _
    (record { error = c.in-Err.error; attempt = TakeIn c.args.added c.args.changed c.args.marks }) c.new.ensures
    (omega (arith, len_taken_cells marks c.args.marks book c.args.added c.args.changed c.if-misses.ensures, len_taken book c.args.added c.args.changed c.if-misses.ensures, room)) c.in-Err.ensures.left

pub returns-in-Err-clause-done : goal.returns-in-Err-clause-done
returns-in-Err-clause-done g c =
    let back = undone c.self.inside.book c.args.added c.take_together.new.book c.remove_all.new.book c.if-meets.ensures c.in-Err.ensures.part c.remove_all.ensures in
    subst (λ (b : Accounts). MayTakeIn b c.args.added c.args.changed × (fin.len b + fin.len c.args.added ≤ register_capacity) × (c.remove_all.new.book ≡ b)) (ap (λ v. v.book) c.self.view_is) ((c.if-meets.ensures, c.if-misses.ensures), c.if-not-has_room.ensures, back)

pub returns-in-Err-clause-remembers : goal.returns-in-Err-clause-remembers
returns-in-Err-clause-remembers g c =
    let back = undone c.self.inside.book c.args.added c.take_together.new.book c.remove_all.new.book c.if-meets.ensures c.in-Err.ensures.part c.remove_all.ensures in
    record {
      made = (λ i. cells_of (back i) (c.in-Err.ensures.unmarked i)) ∙ ap (λ k. cells k) c.self.view_is;
      written = search rules;
      loses = search rules;
    }
