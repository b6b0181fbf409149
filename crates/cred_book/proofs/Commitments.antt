-- A commit and a judgement, by the record at the name.
use Rattle.std.proofs.Common.{◌≡◌, ◌<◌, ℕ, List, Bool, true, false, Option, Some, None, Result, Err, arith, refl, sym, ap, ◌∙◌}
use Rattle.std.proofs.lemmas.Bool.{false≢true}
use Rattle.std.specs.FinMap as map
use Rattle.cred_phc.specs.Values.{RecordValue}
use Rattle.cred_book.specs.{Accounts.Accounts, Calls.EntersWithin, Calls.Shows, declared.error.BookError.BookError}
use Rattle.cred_book.specs.declared.error.BookError.TheVariants as error
use Rattle.cred_book.specs.Commits.{commit_outcome, commit_outcome_at, commit_outcome_if, judgement, judgement_at, judgement_if}
use Rattle.cred_book.specs.{Works.Task, Works.name_of, Works.same, Works.whole, Works.makes_change, declared.request.Reply.Reply}
use Rattle.cred_book.specs.declared.request.Reply.TheVariants as reply
use Rattle.cred_book.proofs.{Changes.insert_again, Equality.same-Decides}

-- the answer at a record, by the test whether it is the copied one
module _ (work : Task) (now : Option RecordValue) where
  pub judges_changed : same now work.1 ≡ false → (reply.Changed now, now, false) ≡ judgement_at work (Some now)
  judges_changed stale = rw stale refl

  pub judges_whole : same now work.1 ≡ true → (answer : Reply) (after : Option RecordValue) → answer ≡ (whole work.0 work.1).0 → after ≡ (whole work.0 work.1).1 → (change : Bool) → change ≡ makes_change answer
      → (answer, after, change) ≡ judgement_at work (Some now)
  judges_whole fresh answer after said made change is_change =
      let copied = (same-Decides now work.1).0 fresh in
      sym (rw (fresh, copied, ← said, ← made, ← is_change) refl)

module _ (book : Accounts) (work : Task) (name : List ℕ) (is : name ≡ name_of work.0) where
  -- the definitions, once the entry at the name is known
  pub committed_found : (entry : Option (Option RecordValue)) → map.get book name ≡ entry → commit_outcome book work ≡ commit_outcome_at book work entry
  unfolding commit_outcome
  committed_found entry found = ap (λ n. commit_outcome_at book work (map.get book n)) (sym is) ∙ ap (commit_outcome_at book work) found

  pub judged_found : (entry : Option (Option RecordValue)) → map.get book name ≡ entry → judgement_at work entry ≡ judgement book work
  unfolding judgement
  judged_found entry found = sym (ap (λ n. judgement_at work (map.get book n)) (sym is) ∙ ap (judgement_at work) found)

  pub commits_nothing : map.get book name ≡ None → (reply.NoAccount, book) ≡ commit_outcome book work
  commits_nothing found = sym (committed_found None found)

  by_test : (now : Option RecordValue) → map.get book (name_of work.0) ≡ Some now → (fresh : Bool)
      → commit_outcome_if book work now fresh ≡ ((judgement_if work now fresh).0, map.insert book (name_of work.0) (judgement_if work now fresh).1)
  by_test now found true = refl
  by_test now found false = ap (λ b. (reply.Changed now, b)) (sym (insert_again book work now found))

  -- the judged record is put at the name, which changes nothing if the judgement is no change
  pub commits_judged : (now : Option RecordValue) → map.get book name ≡ Some now → (told : Reply × Option RecordValue × Bool) → told ≡ judgement_at work (Some now)
      → (later : Accounts) → later ≡ map.insert book name told.1 → (told.0, later) ≡ commit_outcome book work
  commits_judged now found told judges later put =
      let there = ap (map.get book) (sym is) ∙ found in
      let whole_commit = committed_found (Some now) found ∙ by_test now there (same now work.1) in
      sym (whole_commit ∙ rw (← judges, ← is, ← put) refl)

-- a book that doesn't show a name doesn't have it
pub not_shown : (book : Accounts) (name : List ℕ) (e : BookError) → Shows book name (Err e) → map.get book name ≡ None
not_shown book name error.NoAccount h = h
not_shown book name _ h = absurd h

-- only want of memory refuses a new name that there is room for
pub not_refused : (room : ℕ) (old new : Accounts) (name : List ℕ) (now : Option RecordValue) (e : BookError) → EntersWithin room old new name now (Err e) → (◌≡◌ {A = Result (Unit {0}) BookError} (Err e) (Err error.Memory) → ⊥)
    → map.contains_key old name ≡ false → map.len old < room → ⊥
not_refused room old new name now error.Exists h granted absent few = false≢true (sym absent ∙ h.0)
not_refused room old new name now error.Full h granted absent few = omega (arith, h.1, few)
not_refused room old new name now error.Memory h granted absent few = granted refl
not_refused room old new name now _ h granted absent few = h
