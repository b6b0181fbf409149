-- A commit that makes a change leaves what some operation makes, and any other commit leaves the
-- book as it was.
use Rattle.std.proofs.Common.{◌≡◌, ℕ, List, Bool, true, false, Option, Some, None, if◌then◌else◌, not, refl, sym, ap, ◌∙◌}
use Rattle.std.proofs.lemmas.Bool.{cond_both, not-false}
use Rattle.std.specs.FinMap as map
use Rattle.cred_phc.specs.Values.{RecordValue}
use Rattle.cred_book.specs.Accounts.{Accounts}
use Rattle.cred_book.specs.Commits.{commit_outcome, judgement, judgement_at, judgement_if}
use Rattle.cred_book.specs.{Works.Task, Works.name_of, Works.same, Works.same_scheme, Works.whole, Works.makes_change, Works.right, declared.request.Reply.Reply}
use Rattle.cred_book.specs.declared.request.Reply.TheVariants as reply
use Rattle.cred_book.specs.declared.request.Request.{Request}
use Rattle.cred_book.specs.declared.request.Request.TheVariants.{Enrol, Verify, Change, Upgrade, Remove}
use Rattle.cred_desk.specs.{declared.entry.Entry.Entry, Commits.HavePasswords, Commits.reply_of, Commits.entry_of, Commits.list_after}
use Rattle.cred_desk.specs.Histories.{entry, put, after, state_of, Follows, FollowsAt}
use Rattle.cred_book.proofs.Changes.{committed_as_judged}
use Rattle.cred_desk.proofs.Lists.{after_snoc}

abbrev Outcome : Type 0
Outcome = Reply × Option RecordValue

-- ---- whole operations

abbrev IsSound : Option RecordValue → Outcome → Type 0
IsSound now outcome = makes_change outcome.0 ≡ true → Follows now (state_of outcome.1)

-- if an operation makes a change, the state that it leaves follows the one before
whole_follows : (request : Request) → HavePasswords request → (now : Option RecordValue) → IsSound now (whole request now)
whole_follows (Enrol name pw setting) held None change = (pw, held, refl)
whole_follows (Verify name pw) held (Some stored) change = absurd (verify (right stored pw) change)
  where
    verify : (r : Bool) → makes_change (if r then reply.Yes else reply.No) ≡ true → ⊥
    verify true h = cc
    verify false h = cc
whole_follows (Change name pw new setting) held (Some stored) change =
    cond_both (right stored pw) _ _ (IsSound (Some stored)) (λ is _. ((pw, held.0, is), (new, held.1, refl))) (λ _ h. absurd cc) change
whole_follows (Upgrade name pw setting) held (Some stored) change =
    cond_both (not (right stored pw)) _ _ (IsSound (Some stored)) (λ _ h. absurd cc)
    (λ is. cond_both (same_scheme stored.setting.scheme setting.scheme) _ _ (IsSound (Some stored)) (λ _ h. absurd cc)
    (λ _ _. ((pw, held, not-false _ is), (pw, held, refl)))) change
whole_follows (Remove name pw) held (Some stored) change =
    cond_both (right stored pw) _ _ (IsSound (Some stored)) (λ is _. (pw, held, is)) (λ _ h. absurd cc) change
whole_follows _ held _ change = absurd cc

-- ---- commits

judged_if_follows : (work : Task) → HavePasswords work.0 → (now : Option RecordValue) (fresh : Bool) → (judgement_if work now fresh).2 ≡ true → Follows now (state_of (judgement_if work now fresh).1)
judged_if_follows work held now true change = whole_follows work.0 held now change
judged_if_follows work held now false change = absurd cc

judged_at_follows : (work : Task) → HavePasswords work.0 → (found : Option (Option RecordValue)) → (judgement_at work found).2 ≡ true → FollowsAt found (state_of (judgement_at work found).1)
judged_at_follows work held None change = absurd cc
judged_at_follows work held (Some now) change = judged_if_follows work held now (same now work.1) change

-- the entry of a commit is one that some operation makes
pub entry_made : (book : Accounts) (work : Task) → HavePasswords work.0 → (judgement book work).2 ≡ true → FollowsAt (map.get book (name_of work.0)) (state_of (judgement book work).1)
unfolding judgement
entry_made book work held change = judged_at_follows work held (map.get book (name_of work.0)) change

-- ---- books after commits

-- an entry of a record, or of none, puts it at its name
put_entry : (book : Accounts) (name : List ℕ) (stored : Option RecordValue) → put book (entry name stored) ≡ map.insert book name stored
put_entry book name None = refl
put_entry book name (Some stored) = refl

-- the book after the entry of a commit, if it makes one
abbrev after_entry : Accounts → Option Entry → Accounts
after_entry book None = book
after_entry book (Some e) = put book e

after_list : (book : Accounts) (list : List Entry) (e : Option Entry) → after book (list_after list e) ≡ after_entry (after book list) e
after_list book list None = refl
after_list book list (Some e) = after_snoc book list e

-- the judged change is entered, or nothing is
entered : (book : Accounts) (name : List ℕ) (now : Option RecordValue) (change : Bool)
    → after_entry book (if change then Some (entry name now) else None) ≡ (if change then map.insert book name now else book)
entered book name now true = put_entry book name now
entered book name now false = refl

-- a commit answers and changes the book as by the list's new entry
pub commits : (book : Accounts) (list : List Entry) (work : Task) → (reply_of (after book list) work, after book (list_after list (entry_of (after book list) work))) ≡ commit_outcome (after book list) work
commits book list work =
    let now = after book list in
    ap (λ b. (reply_of now work, b)) (after_list book list (entry_of now work)
    ∙ entered now (name_of work.0) (judgement now work).1 (judgement now work).2) ∙ sym (committed_as_judged now work)
