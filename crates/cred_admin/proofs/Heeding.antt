-- A commit that heeds the marks.
use Rattle.std.proofs.Common.{◌≡◌, List, ℕ, Option, Some, None, Ok, Bool, true, false, if◌then◌else◌, inl, inr, refl, sym, ap, ◌∙◌}
use Rattle.cred_phc.specs.Values.{RecordValue}
use Rattle.cred_book.specs.{Accounts.Accounts, Commits.Commits, Commits.commit_outcome_if, Commits.judgement, Commits.judgement_at, Commits.judgement_if, Works.Task, Works.makes_change, Works.name_of, Works.same, Works.whole, declared.request.Reply.Reply}
use Rattle.cred_book.proofs.Commitments.{committed_found}
use Rattle.cred_file.specs.declared.marks.Mark.{Mark}
use Rattle.cred_admin.specs.Marked.{MarkedBook, HeedsMarks, barred, barred_by, due, marked_book, marks_after, shut, tried, tried_at, tried_if, with_commit}
use Rattle.cred_admin.specs.declared.verdict.Verdict.{Verdict}
use Rattle.cred_admin.specs.declared.verdict.Verdict.TheVariants.{Told}
use Rattle.std.specs.FinMap as map
use Rattle.cred_book.specs.declared.request.Reply.TheVariants as reply

pub book_is : (t : MarkedBook) (b : Accounts) (m : List ℕ → Mark) → t.accounts ≡ b → t.marks ≡ m → t ≡ marked_book b m
book_is t b m accounts marks = ap (λ x. marked_book x t.marks) accounts ∙ ap (marked_book b) marks

-- ---- what is barred

-- where the record is another, a lock alone bars
closed : (l c : Bool) (a b : Option Verdict) (v : Verdict) → (if l then a else if c then None else None) ≡ Some v → (if l then a else if c then b else None) ≡ Some v
closed true c a b v is = is
closed false true a b v is = cc is
closed false false a b v is = cc is

module _ (s : MarkedBook) (work : Task) where
  abbrev mark : Mark
  mark = s.marks (name_of work.0)

  pub no_account : map.get s.accounts (name_of work.0) ≡ None → HeedsMarks s s work (Told reply.NoAccount)
  unfolding tried
  no_account none = inl (sym (ap (tried_at s work.0) none))

  -- what stands at the name is tried
  at_now : (now : Option RecordValue) (o : Option Verdict) → map.get s.accounts (name_of work.0) ≡ Some now → barred mark work.0 now ≡ o → tried s work.0 ≡ tried_if s work.0 now o
  unfolding tried
  at_now now o there is = ap (tried_at s work.0) there ∙ ap (tried_if s work.0 now) is

  judged : (now : Option RecordValue) → map.get s.accounts (name_of work.0) ≡ Some now → judgement s.accounts work ≡ judgement_if work now (same now work.1)
  unfolding judgement
  judged now there = ap (judgement_at work) there

  barred_too : (now : Option RecordValue) (v : Verdict) (is_copy : Bool) → barred_by mark work.0 now (judgement_if work now is_copy).0 ≡ Some v → barred mark work.0 now ≡ Some v
  barred_too now v true is = is
  barred_too now v false is = closed mark.locked mark.must_change (Some (Told (shut work.0 now))) (due work.0 (whole work.0 now).0) v is

  pub is_barred : (now : Option RecordValue) (v : Verdict) → map.get s.accounts (name_of work.0) ≡ Some now → barred_by mark work.0 now (judgement s.accounts work).0 ≡ Some v → HeedsMarks s s work v
  is_barred now v there is =
      let found : barred_by mark work.0 now (judgement_if work now (same now work.1)).0 ≡ Some v = ap (λ (j : Reply × Option RecordValue × Bool). barred_by mark work.0 now j.0) (sym (judged now there)) ∙ is in
      inl (sym (at_now now (Some v) there (barred_too now v (same now work.1) found)))

  module _ (new : MarkedBook) (now : Option RecordValue) (r : Reply) (there : map.get s.accounts (name_of work.0) ≡ Some now) where
    by_copy : (is_copy : Bool) → same now work.1 ≡ is_copy → barred_by mark work.0 now (judgement_if work now is_copy).0 ≡ None → (r, new.accounts) ≡ commit_outcome_if s.accounts work now is_copy → new.marks ≡ marks_after s (name_of work.0) (judgement_if work now is_copy).2 → HeedsMarks s new work (Told r)
    by_copy true is open_ done marks =
        inl (ap (λ q. (Told q, new)) (ap (λ (o : Reply × Accounts). o.0) done) ∙ ap (λ t. (Told (whole work.0 now).0, t)) (book_is new _ _ (ap (λ (o : Reply × Accounts). o.1) done) marks) ∙ sym (at_now now None there open_))
    by_copy false is open_ done marks = inr (record {
      now = now;
      there = there;
      other = is;
      told = ap (λ (o : Reply × Accounts). Told o.0) done;
      same_book = book_is new s.accounts s.marks (ap (λ o. o.1) done) marks;
    })

    pub committed : barred_by mark work.0 now (judgement s.accounts work).0 ≡ None → Commits s.accounts new.accounts work (Ok r) → new ≡ with_commit s work → HeedsMarks s new work (Told r)
    committed open_ done whole =
        let as_judged = judged now there in
        by_copy (same now work.1) refl (ap (λ (j : Reply × Option RecordValue × Bool). barred_by mark work.0 now j.0) (sym as_judged) ∙ open_)
        (done ∙ committed_found s.accounts work (name_of work.0) refl (Some now) there)
        (ap (λ (b : MarkedBook). b.marks) whole ∙ ap (λ (j : Reply × Option RecordValue × Bool). marks_after s (name_of work.0) j.2) as_judged)

-- these together
pub ruleset heeding = (no_account, is_barred, committed)
