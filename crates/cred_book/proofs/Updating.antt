-- Conditional updates are whole operations, one after another.
use Rattle.std.proofs.Common.{◌≡◌, ◌⊎◌, inl, inr, List, [], ◌∷◌, ℕ, Bool, true, false, Option, Some, None, if◌then◌else◌, cond, Ordering, Equal, is_eq, refl, sym, ap, ◌∙◌}
use Rattle.std.specs.Prelude.{unwrap_or}
use Rattle.std.specs.FinMap as map
use Rattle.cred_phc.specs.Values.{RecordValue}
use Rattle.cred_book.specs.{Accounts.Accounts, Commits.commit_outcome, Commits.commit_outcome_at, Commits.commit_outcome_if, Names.name_cmp}
use Rattle.cred_book.specs.Updates.{HasDone, IsConditional, IsExact, IsLog, IsWorked, Rows, Update, answer, operation_of, operations_done, outcome_at, outcome_on, refusal, replies_done, seq_after, seq_replies, standing, store_after, update_of, updated, with_row}
use Rattle.cred_book.specs.{Works.Task, Works.name_of, Works.same, Works.seq, Works.seq_at, declared.request.Reply.Reply}
use Rattle.cred_book.specs.{declared.request.Reply.TheVariants.NoAccount, declared.request.Request.Request}
use Rattle.cred_book.proofs.{Equality.same-Decides, Rows.get_row, Rows.row_again, Rows.same_names}

-- ---- one update

module _ {V R : Type 0} (rows : Rows V) (update : Update V R) where
  abbrev put : R × Option V → R × Rows V
  put outcome = (outcome.0, with_row rows update.operation.key outcome.1)

  -- the rows after the update, by whether it was done
  abbrev updated_if : Bool → Rows V
  updated_if done = if done then with_row rows update.operation.key update.after else rows

  -- an update that is done is the whole operation on the present row
  pub stepped : IsWorked update → IsConditional rows update → update.is_done ≡ true
      → ◌≡◌ {A = R × Rows V} (update.reply, updated rows update) (outcome_on rows update.operation)
  unfolding outcome_on
  stepped worked owed is =
      ap (λ done. (update.reply, updated_if done)) is ∙ ap put worked ∙ ap (λ now. put (update.operation.act now)) (sym (owed is))

  pub left : update.is_done ≡ false → updated rows update ≡ rows
  left is = ap updated_if is

  looked_if : IsConditional rows update → update.after ≡ update.copy → (done : Bool) → update.is_done ≡ done → updated_if done ≡ rows
  looked_if owed still true is = row_again rows update.operation.key update.after (owed is ∙ sym still)
  looked_if owed still false is = refl

  pub looked : IsConditional rows update → update.after ≡ update.copy → updated rows update ≡ rows
  looked owed still = looked_if owed still update.is_done refl

-- ---- many updates

module _ {V R : Type 0} (rows : Rows V) (update : Update V R) (updates : List (Update V R)) where
  abbrev next : Rows V
  next = updated rows update

  one_reply : IsWorked update → IsConditional rows update → replies_done updates ≡ seq_replies next (operations_done updates)
      → (done : Bool) → update.is_done ≡ done
      → (if done then update.reply ∷ replies_done updates else replies_done updates)
      ≡ seq_replies rows (if done then update.operation ∷ operations_done updates else operations_done updates)
  unfolding seq_replies
  one_reply worked owed rest true is =
      ap (λ l. update.reply ∷ l) rest ∙ ap (λ o. o.0 ∷ seq_replies o.1 (operations_done updates)) (stepped rows update worked owed is)
  one_reply worked owed rest false is = rest ∙ ap (λ s. seq_replies s (operations_done updates)) (left rows update is)

  one_on : IsWorked update → IsConditional rows update → store_after next updates ≡ seq_after next (operations_done updates)
      → (done : Bool) → update.is_done ≡ done
      → store_after next updates ≡ seq_after rows (if done then update.operation ∷ operations_done updates else operations_done updates)
  unfolding seq_after
  one_on worked owed rest true is = rest ∙ ap (λ o. seq_after o.1 (operations_done updates)) (stepped rows update worked owed is)
  one_on worked owed rest false is = rest ∙ ap (λ s. seq_after s (operations_done updates)) (left rows update is)

pub replied : {V R : Type 0} (rows : Rows V) (updates : List (Update V R)) → IsLog rows updates → replies_done updates ≡ seq_replies rows (operations_done updates)
unfolding replies_done seq_replies operations_done
replied rows [] log = refl
replied rows (update ∷ updates) log =
    one_reply rows update updates log.0 log.1 (replied (updated rows update) updates log.2) update.is_done refl

pub kept : {V R : Type 0} (rows : Rows V) (updates : List (Update V R)) → IsLog rows updates → store_after rows updates ≡ seq_after rows (operations_done updates)
unfolding store_after seq_after operations_done
kept rows [] log = refl
kept rows (update ∷ updates) log =
    one_on rows update updates log.0 log.1 (kept (updated rows update) updates log.2) update.is_done refl

-- ---- refused updates

-- another key's row stays
get_other : {V : Type 0} (rows : Rows V) (key : List ℕ) (row : Option V) (q : List ℕ) → is_eq (name_cmp q key) ≡ false → map.get (with_row rows key row) q ≡ map.get rows q
get_other rows key row q other = get_row rows key row q ∙ ap (λ same. cond same row (map.get rows q)) other

or_else : {A B C : Type 0} → A ⊎ B → (B → C) → A ⊎ C
or_else (inl a) f = inl a
or_else (inr b) f = inr (f b)

module _ {V R : Type 0} (update : Update V R) where
  -- an update in between is at the same key and done, or leaves the row as it is
  passed : (rows : Rows V) (between : Update V R) (done : Bool) (order : Ordering) → between.is_done ≡ done → name_cmp update.operation.key between.operation.key ≡ order
      → ((between.is_done ≡ true) × (between.operation.key ≡ update.operation.key)) ⊎ (standing (updated rows between) update ≡ standing rows update)
  passed rows between false order is cmp = inr (ap (λ s. standing s update) (left rows between is))
  passed rows between true Equal is cmp = inl (is, sym (same_names _ _ cmp))
  passed rows between true _ is cmp =
      inr (ap (λ done. standing (updated_if rows between done) update) is ∙ get_other rows between.operation.key between.after update.operation.key (ap is_eq cmp))

  pub refused : (rows : Rows V) (between : List (Update V R)) → standing rows update ≡ update.copy → IsExact (store_after rows between) update → update.is_done ≡ false → HasDone update.operation.key between
  unfolding store_after HasDone
  refused rows [] stood exact is = let done = exact.1 stood in absurd cc
  refused rows (between ∷ others) stood exact is =
      or_else (passed rows between between.is_done _ refl refl) (λ same. refused (updated rows between) others (same ∙ stood) exact is)

-- ---- requests

pub request_whole : (book : Accounts) (request : Request) → outcome_on book (operation_of request) ≡ seq book request
unfolding outcome_on seq
request_whole book request = at (map.get book (name_of request)) refl
  where
    at : (now : Option (Option RecordValue)) → map.get book (name_of request) ≡ now
        → ◌≡◌ {A = Reply × Accounts} ((outcome_at request now).0, with_row book (name_of request) (outcome_at request now).1) (seq_at book request now)
    at None absent = ap (λ b. (NoAccount, b)) (row_again book (name_of request) None absent)
    at (Some now) stands = refl

module _ (book : Accounts) (task : Task) (is_done : Bool) where
  abbrev update : Update (Option RecordValue) Reply
  update = update_of task is_done

  abbrev outcome_if : Bool → Reply × Accounts
  outcome_if done = (if done then update.reply else refusal (standing book update), updated_if book update done)

  committed_if : IsExact book update → (now : Option RecordValue) → standing book update ≡ Some now
      → (done : Bool) → is_done ≡ done → (is_copy : Bool) → same now task.1 ≡ is_copy
      → outcome_if done ≡ commit_outcome_if book task now is_copy
  committed_if exact now stands true is true copied =
      ap (λ o. put book update (outcome_at task.0 (Some o))) (sym ((same-Decides now task.1).0 copied))
  committed_if exact now stands true is false other =
      let same_now = (same-Decides now task.1).1 (ap (λ o. unwrap_or o now) (sym stands ∙ exact.0 is)) in absurd cc
  committed_if exact now stands false is true copied =
      let was_done = exact.1 (stands ∙ ap Some ((same-Decides now task.1).0 copied)) in absurd cc
  committed_if exact now stands false is false other = ap (λ s. (refusal s, book)) stands

  committed_at : IsExact book update → (there : Option (Option RecordValue)) → standing book update ≡ there
      → (done : Bool) → is_done ≡ done → outcome_if done ≡ commit_outcome_at book task there
  committed_at exact None absent true is = let stands = sym absent ∙ exact.0 is in absurd cc
  committed_at exact None absent false is = ap (λ s. (refusal s, book)) absent
  committed_at exact (Some now) stands done is = committed_if exact now stands done is (same now task.1) refl

  pub committed : IsExact book update → commit_outcome book task ≡ (answer book update, updated book update)
  unfolding commit_outcome
  committed exact = sym (committed_at exact (standing book update) refl is_done refl)
