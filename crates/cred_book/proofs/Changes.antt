-- The change of a commit: the one that its work told, or none.
use Rattle.std.proofs.Common.{◌≡◌, Bool, true, false, Option, Some, None, MatchOption, if◌then◌else◌, not, refl, ap, ◌∙◌}
use Rattle.std.proofs.lemmas.Bool.{cond_both}
use Rattle.std.specs.FinMap as map
use Rattle.cred_phc.specs.Values.{RecordValue}
use Rattle.cred_book.specs.{Accounts.Accounts, Changes.change_with, Changes.change_of, Changes.judged_book}
use Rattle.cred_book.specs.Commits.{commit_outcome, commit_outcome_at, commit_outcome_if, judgement, judgement_at, judgement_if}
use Rattle.cred_book.specs.{Works.Task, Works.name_of, Works.same, Works.same_scheme, Works.whole, Works.makes_change, Works.right}
use Rattle.cred_book.specs.{declared.request.Reply.Reply, declared.request.Request.Request}
use Rattle.cred_book.specs.declared.request.Request.TheVariants.{Enrol, Verify, Change as Replace, Upgrade, Remove}
use Rattle.cred_book.proofs.{Equality.same-Decides, Rows.row_again}

abbrev Outcome : Type 0
Outcome = Reply × Option RecordValue

abbrev IsStill : Option RecordValue → Outcome → Type 0
IsStill now outcome = makes_change outcome.0 ≡ false → outcome.1 ≡ now

-- an operation that makes no change leaves the record as it was
pub whole_stays : (request : Request) (now : Option RecordValue) → IsStill now (whole request now)
whole_stays (Enrol name pw setting) None = λ stays. absurd cc
whole_stays (Replace name pw new setting) (Some stored) = cond_both (right stored pw) _ _ (IsStill (Some stored)) (λ _ h. absurd cc) (λ _ h. refl)
whole_stays (Upgrade name pw setting) (Some stored) =
    cond_both (not (right stored pw)) _ _ (IsStill (Some stored)) (λ _ h. refl)
    (λ _. cond_both (same_scheme stored.setting.scheme setting.scheme) _ _ (IsStill (Some stored)) (λ _ h. refl) (λ _ h. absurd cc))
whole_stays (Remove name pw) (Some stored) = cond_both (right stored pw) _ _ (IsStill (Some stored)) (λ _ h. absurd cc) (λ _ h. refl)
whole_stays (Verify name pw) (Some stored) = λ stays. refl
whole_stays _ _ = λ stays. refl

module _ (book : Accounts) (work : Task) where
  -- the answer and the book after it are those of the announced change
  abbrev IsTold : Reply × Accounts → Option RecordValue → Type 0
  IsTold commit_outcome copy = MatchOption (change_with (name_of work.0) (whole work.0 copy)) ⊥ (λ change. commit_outcome ≡ (change.reply, map.insert book change.name change.after))

  told_outcome : (outcome : Outcome) → makes_change outcome.0 ≡ true
      → MatchOption (change_with (name_of work.0) outcome) ⊥ (λ change. ◌≡◌ {A = Reply × Accounts} (outcome.0, map.insert book (name_of work.0) outcome.1) (change.reply, map.insert book change.name change.after))
  told_outcome outcome is = rw is refl

  told_if : (now : Option RecordValue) (fresh : Bool) → same now work.1 ≡ fresh → makes_change (commit_outcome_if book work now fresh).0 ≡ true → IsTold (commit_outcome_if book work now fresh) work.1
  told_if now true is change = let copied = (same-Decides now work.1).0 is in rw copied (told_outcome (whole work.0 work.1) (rw copied at change))
  told_if now false is change = absurd cc

  told_at : (found : Option (Option RecordValue)) → makes_change (commit_outcome_at book work found).0 ≡ true → IsTold (commit_outcome_at book work found) work.1
  told_at None change = absurd cc
  told_at (Some now) change = told_if now (same now work.1) refl change

  pub told : makes_change (commit_outcome book work).0 ≡ true
      → MatchOption (change_of work) ⊥ (λ change. commit_outcome book work ≡ (change.reply, map.insert book change.name change.after))
  unfolding commit_outcome change_of
  told change = told_at (map.get book (name_of work.0)) change

  module _ (now : Option RecordValue) (found : map.get book (name_of work.0) ≡ Some now) where
    pub insert_again : map.insert book (name_of work.0) now ≡ book
    insert_again = row_again book (name_of work.0) (Some now) found

    stays_whole : makes_change (whole work.0 now).0 ≡ false → map.insert book (name_of work.0) (whole work.0 now).1 ≡ book
    stays_whole is = ap (map.insert book (name_of work.0)) (whole_stays work.0 now is) ∙ insert_again

    stays_if : (fresh : Bool) → makes_change (commit_outcome_if book work now fresh).0 ≡ false → (commit_outcome_if book work now fresh).1 ≡ book
    stays_if true is = stays_whole is
    stays_if false is = refl

    by_change : (change : Bool) → makes_change (whole work.0 now).0 ≡ change
        → map.insert book (name_of work.0) (whole work.0 now).1 ≡ (if change then map.insert book (name_of work.0) (whole work.0 now).1 else book)
    by_change true is = refl
    by_change false is = stays_whole is

    by_copy : (fresh : Bool) → commit_outcome_if book work now fresh ≡ ((judgement_if work now fresh).0, judged_book book work (judgement_if work now fresh))
    by_copy true = ap (λ b. ((whole work.0 now).0, b)) (by_change (makes_change (whole work.0 now).0) refl)
    by_copy false = refl

  stays_at : (found : Option (Option RecordValue)) → map.get book (name_of work.0) ≡ found → makes_change (commit_outcome_at book work found).0 ≡ false → (commit_outcome_at book work found).1 ≡ book
  stays_at None is = λ _. refl
  stays_at (Some now) is = stays_if now is (same now work.1)

  pub stays : makes_change (commit_outcome book work).0 ≡ false → (commit_outcome book work).1 ≡ book
  unfolding commit_outcome
  stays = stays_at (map.get book (name_of work.0)) refl

  by_record : (found : Option (Option RecordValue)) → map.get book (name_of work.0) ≡ found
      → commit_outcome_at book work found ≡ ((judgement_at work found).0, judged_book book work (judgement_at work found))
  by_record None is = refl
  by_record (Some now) is = by_copy now is (same now work.1)

  pub committed_as_judged : commit_outcome book work ≡ ((judgement book work).0, judged_book book work (judgement book work))
  unfolding commit_outcome judgement
  committed_as_judged = by_record (map.get book (name_of work.0)) refl
