use Rattle.std.proofs.Common.{rules, ◌≡◌, [], inl, inr, refl, sym, subst, ◌∙◌, arith}
use Rattle.sqlite.specs.{Held.state, State.CommitsShowing, State.HasCleanDisk, State.Survives}
use Rattle.sqlite.proofs.{Callers.begun_plain, Callers.unchanged_then, StateLemmas.survives_then}
use Rattle.cred_book.specs.Accounts.{Accounts}
use Rattle.cred_file.specs.Cells.{Marks, cells_of, mark_at}
use Rattle.cred_file.specs.{Opening.IsUnopened, Opening.rows_text, Table.StandsFor}
use Rattle.cred_file.proofs.{Pushed.draft_push, Pushed.no_rows, Selected.as_before, Selected.survived}
use Rattle.cred_file.proofs.{Streamed.fails_from_first, Streamed.fault_first, Streamed.stands_last, Texts.rows_plain}
use Rattle.cred_file.proofs.statements.read_rows.Goals as goal

pub returns-in-Err-clause-left : goal.returns-in-Err-clause-left
returns-in-Err-clause-left g c =
    let old = state g.S.Store c.args.conn.now in
    let new = state g.S.Store c.query.follows.lender-at-none in
    let held = c.query.follows.holds-at-none in
    let kept : Survives old new (CommitsShowing rows_text [] old) = search rules in
    survived old new c.requires kept

pub rows-init : goal.rows-init
rows-init g c =
    let made = c.in-Ok.ensures in
    let old = state g.S.Store c.args.conn.now in (
      refl,
      survived old (state g.S.Store c.in-Ok.rows.conn.now) c.requires made.survives,
      λ clean.
          let begun = begun_plain g.S.Store rows_text [] c.args.conn.now c.in-Ok.rows.conn.now (rows_plain _ c.requires) (made.begun clean) in
          (begun.1, ([], begun.0, no_rows (cells_of c.new-draft.result.book (mark_at c.new-draft.result.marks)) c.new-draft.result.last c.new-draft.ensures.0 c.new-draft.ensures.1)),
    )

pub returns-in-Ok-None-clause-stands : goal.returns-in-Ok-None-clause-stands
returns-in-Ok-None-clause-stands g c clean =
    let moved = c.next.follows.holds-at-none in
    let old = state g.S.Store c.args.conn.now in
    let now = c.next.follows.lender-at-none.conn.now in
    let late : HasCleanDisk (state g.S.Store now) = search rules in
    let was = c.rows.invariant.2 (omega (arith, moved.survives.clean)) in
    let shown = (rw (c.in-Ok-None.is, c.in-Ok-None.field-0-is) at (moved.ok late)) rows_text [] was.1.0 was.1.1 in
    subst (λ (r : Accounts × Marks). StandsFor (old.now.trees 0) (cells_of r.0 (mark_at r.1))) (sym c.into_book.ensures.book)
    (stands_last g.S.Store old c.rows.rows.conn.now c.requires was.0 (state g.S.Store now) was.1.0 shown (cells_of c.rows.draft.book (mark_at c.rows.draft.marks)) was.1.2.stands)

pub returns-in-Err-next-clause-fault : goal.returns-in-Err-next-clause-fault
returns-in-Err-next-clause-fault g c clean =
    let moved = c.next.follows.holds-at-none in
    let old = state g.S.Store c.args.conn.now in
    let mid = state g.S.Store c.rows.rows.conn.now in
    let now = c.next.follows.lender-at-none.conn.now in
    let late : HasCleanDisk (state g.S.Store now) = search rules in
    let was = c.rows.invariant.2 (omega (arith, moved.survives.clean)) in
    let failed = (rw c.in-Err-next.is at (moved.err late)) rows_text [] was.1.0 was.1.1 in
    let before = c.rows.invariant.1 in
    let unopened : IsUnopened old (state g.S.Store now) (Rattle.cred_file.specs.declared.fault.OpenFault.TheVariants.Database c.in-Err-next.error) =
    inr (inr (c.in-Err-next.error, refl, fails_from_first old mid (state g.S.Store now) c.requires was.0 before.counts before.limit c.in-Err-next.error failed)) in
    let tie : now ≡ c.conn-in-Err-next-1.given.0 = search rules in
    subst (λ h. IsUnopened old (state g.S.Store h) (Rattle.cred_file.specs.declared.fault.OpenFault.TheVariants.Database c.in-Err-next.error)) tie unopened

pub returns-in_err-add-clause-fault : goal.returns-in_err-add-clause-fault
returns-in_err-add-clause-fault g c clean =
    let moved = c.next.follows.holds-at-none in
    let old = state g.S.Store c.args.conn.now in
    let mid = state g.S.Store c.rows.rows.conn.now in
    let now = c.next.follows.lender-at-none.conn.now in
    let late : HasCleanDisk (state g.S.Store now) = search rules in
    let was = c.rows.invariant.2 (omega (arith, moved.survives.clean)) in
    let more = (rw (c.in-Ok-Some.is, c.in-Ok-Some.field-0-is) at (moved.ok late)) rows_text [] was.1.0 was.1.1 in
    let same = unchanged_then old mid (state g.S.Store now) was.0 (rw c.in-Ok-Some.is at (moved.same late)) in
    let fault = fault_first g.S.Store old now c.requires same was.1.0 _ more (cells_of c.rows.draft.book (mark_at c.rows.draft.marks)) c.rows.draft.last was.1.2 c.in_err-add.field-0.0 c.in_err-add.ensures.left_out in
    let unopened : IsUnopened old (state g.S.Store now) c.in_err-add.field-0.0 = inr (inl (fault, as_before old (state g.S.Store now) same)) in
    search rules

pub rows-preserved : goal.rows-preserved
rows-preserved g c =
    let moved = c.next.follows.holds-at-none in
    let old = state g.S.Store c.args.conn.now in
    let mid = state g.S.Store c.rows.rows.conn.now in
    let now = c.next.follows.lender-at-none.conn.now in (
      moved.same_reference ∙ c.rows.invariant.0,
      survives_then old mid (state g.S.Store now) _ _ _ (λ _ db h. h) (λ _ db h. h) c.rows.invariant.1 moved.survives,
      λ late.
          let was = c.rows.invariant.2 (omega (arith, moved.survives.clean)) in
          let more = (rw (c.in-Ok-Some.is, c.in-Ok-Some.field-0-is) at (moved.ok late)) rows_text [] was.1.0 was.1.1 in (
            unchanged_then old mid (state g.S.Store now) was.0 (rw c.in-Ok-Some.is at (moved.same late)),
            (_, more, draft_push was.1.0 (cells_of c.rows.draft.book (mark_at c.rows.draft.marks)) c.rows.draft.last _ (cells_of c.add.new.self.book (mark_at c.add.new.self.marks)) c.add.new.self.last was.1.2 c.in_ok-add.ensures.added),
          ),
    )
