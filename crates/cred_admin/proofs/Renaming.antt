-- The answers of a keeper that changes an account without its password.
use Rattle.std.proofs.{Common.◌≡◌, Common.ℕ, Common.◌<◌, Common.◌≤◌, Common.List, Common.true, Common.false, Common.Option, Common.Some, Common.None, Common.Ok, Common.Err, Common.is_some, Common.refl, Common.ap, Common.arith, Common.nat_lt, Common.◌∙◌, lemmas.Bool.Decides.nat_tests}
use Rattle.std.specs.FinMap as fin
use Rattle.cred_phc.specs.Values.{RecordValue}
use Rattle.cred_book.specs.Accounts.{Accounts}
use Rattle.cred_book.specs.declared.error.BookError.TheVariants as error
use Rattle.cred_admin.specs.declared.account_reply.AccountReply.TheVariants as reply
use Rattle.cred_file.specs.{Cells.cells_of, Cells.mark_in, Cells.marked, Cells.renewed, Cells.unmarked, Changes.renamed, declared.marks.Mark.Mark}
use Rattle.cred_file.proofs.CellLaws.{mark_here}
use Rattle.cred_admin.specs.{AccountOperations.OperatesWithin, Marked.expired, Marked.locked, Marked.marked_book, Marked.unlocked}
use Rattle.cred_admin.specs.declared.account_operation.AccountOperation.TheVariants.{Disable, Delete, Rename, Lock, Unlock, Expire}
use Rattle.cred_admin.proofs.Heeding.{book_is as whole_book}

none_of : (o : Option (Option RecordValue)) → is_some o ≡ false → o ≡ None
none_of None is = refl
none_of (Some v) is = absurd cc

some_of : (o : Option (Option RecordValue)) → is_some o ≡ true → (v : Option RecordValue) × (o ≡ Some v)
some_of None is = absurd cc
some_of (Some v) is = (v, refl)

module _ (room : ℕ) (book : Accounts) (marks : List ℕ → Mark) (name : List ℕ) where
  -- ---- renames

  pub no_name : (other : List ℕ) → fin.contains_key book name ≡ false → OperatesWithin room (marked_book book marks) (marked_book book marks) (Rename name other) (Ok reply.NoAccount)
  no_name other absent = rw (none_of (fin.get book name) absent) (refl, refl)

  pub taken : (other : List ℕ) → fin.contains_key book name ≡ true → fin.contains_key book other ≡ true → OperatesWithin room (marked_book book marks) (marked_book book marks) (Rename name other) (Ok reply.Exists)
  taken other there also =
      let (v, found) = some_of (fin.get book name) there in
      rw (found, also) (refl, refl)

  pub no_room : (other : List ℕ) → fin.contains_key book name ≡ true → fin.contains_key book other ≡ false → room ≤ fin.len book → OperatesWithin room (marked_book book marks) (marked_book book marks) (Rename name other) (Err error.Full)
  no_room other there absent full =
      let (v, found) = some_of (fin.get book name) there in
      let tested : nat_lt (fin.len book) room ≡ false = grind (arith, nat_tests, full) in
      rw (found, absent, tested) (refl, refl)

  pub moved : (other : List ℕ) (new : Accounts) (after : List ℕ → Mark) → fin.contains_key book name ≡ true → fin.contains_key book other ≡ false → fin.len book < room → new ≡ renamed book name other
      → after ≡ marked (marked marks other (marks name)) name unmarked → OperatesWithin room (marked_book book marks) (marked_book new after) (Rename name other) (Ok reply.Renamed)
  moved other new after there absent low is marks_are =
      let (v, found) = some_of (fin.get book name) there in
      let tested : nat_lt (fin.len book) room ≡ true = grind (arith, nat_tests, low) in
      let insert_is : new ≡ fin.insert (fin.remove book name) other v = rw found at is in
      rw (found, absent, tested) (refl, ap (λ s. (reply.Renamed, s)) (whole_book (marked_book new after) _ _ insert_is marks_are))

  pub not_moved : (other : List ℕ) (new : Accounts) (after : List ℕ → Mark) → fin.contains_key book name ≡ true → fin.contains_key book other ≡ false → fin.len book < room → new ≡ book → after ≡ marks
      → OperatesWithin room (marked_book book marks) (marked_book new after) (Rename name other) (Err error.Memory)
  not_moved other new after there absent low book_is marks_are =
      let (v, found) = some_of (fin.get book name) there in
      let tested : nat_lt (fin.len book) room ≡ true = grind (arith, nat_tests, low) in
      rw (found, absent, tested) (refl, refl, whole_book (marked_book new after) _ _ book_is marks_are)

  -- ---- deletions and records taken away

  pub deleted : (new : Accounts) (after : List ℕ → Mark) → fin.contains_key book name ≡ true → new ≡ fin.remove book name → after ≡ marked marks name unmarked
      → OperatesWithin room (marked_book book marks) (marked_book new after) (Delete name) (Ok reply.Deleted)
  deleted new after there book_is marks_are =
      let (v, found) = some_of (fin.get book name) there in
      rw found (refl, ap (λ s. (reply.Deleted, s)) (whole_book (marked_book new after) _ _ book_is marks_are))

  pub not_deleted : (new : Accounts) (after : List ℕ → Mark) → fin.contains_key book name ≡ true → new ≡ book → after ≡ marks → OperatesWithin room (marked_book book marks) (marked_book new after) (Delete name) (Err error.Memory)
  not_deleted new after there book_is marks_are =
      let (v, found) = some_of (fin.get book name) there in
      rw found (refl, refl, whole_book (marked_book new after) _ _ book_is marks_are)

  pub none_deleted : (new : Accounts) (after : List ℕ → Mark) → fin.contains_key book name ≡ false → new ≡ book → after ≡ marks → OperatesWithin room (marked_book book marks) (marked_book new after) (Delete name) (Ok reply.NoAccount)
  none_deleted new after absent book_is marks_are = rw (none_of (fin.get book name) absent) (refl, ap (λ s. (reply.NoAccount, s)) (whole_book (marked_book new after) _ _ book_is marks_are))

  pub disabled : (new : Accounts) (after : List ℕ → Mark) (v : RecordValue) → fin.get book name ≡ Some (Some v) → new ≡ fin.insert book name None → after ≡ marked marks name (renewed (mark_in (cells_of book marks) name))
      → OperatesWithin room (marked_book book marks) (marked_book new after) (Disable name) (Ok reply.Disabled)
  disabled new after v found book_is marks_are =
      let here : mark_in (cells_of book marks) name ≡ marks name = mark_here marks book name (ap is_some found) in
      let are : after ≡ marked marks name (renewed (marks name)) = marks_are ∙ ap (λ m. marked marks name (renewed m)) here in
      rw found (refl, ap (λ s. (reply.Disabled, s)) (whole_book (marked_book new after) _ _ book_is are))

  -- ---- marks

  pub is_locked : (new : Accounts) (after : List ℕ → Mark) (m : Mark) → m ≡ locked (marks name) → fin.contains_key book name ≡ true → new ≡ book → after ≡ marked marks name m
      → OperatesWithin room (marked_book book marks) (marked_book new after) (Lock name) (Ok reply.Locked)
  is_locked new after m is there book_is marks_are =
      let (v, found) = some_of (fin.get book name) there in
      rw found (refl, ap (λ s. (reply.Locked, s)) (whole_book (marked_book new after) _ _ book_is (marks_are ∙ ap (marked marks name) is)))

  pub not_locked : (new : Accounts) (after : List ℕ → Mark) → fin.contains_key book name ≡ true → new ≡ book → after ≡ marks → OperatesWithin room (marked_book book marks) (marked_book new after) (Lock name) (Err error.Memory)
  not_locked new after there book_is marks_are =
      let (v, found) = some_of (fin.get book name) there in
      rw found (refl, refl, whole_book (marked_book new after) _ _ book_is marks_are)

  pub none_locked : (new : Accounts) (after : List ℕ → Mark) → fin.contains_key book name ≡ false → new ≡ book → after ≡ marks → OperatesWithin room (marked_book book marks) (marked_book new after) (Lock name) (Ok reply.NoAccount)
  none_locked new after absent book_is marks_are = rw (none_of (fin.get book name) absent) (refl, ap (λ s. (reply.NoAccount, s)) (whole_book (marked_book new after) _ _ book_is marks_are))

  pub is_unlocked : (new : Accounts) (after : List ℕ → Mark) (m : Mark) → (marks name).locked ≡ true → m ≡ unlocked (marks name) → fin.contains_key book name ≡ true → new ≡ book → after ≡ marked marks name m
      → OperatesWithin room (marked_book book marks) (marked_book new after) (Unlock name) (Ok reply.Unlocked)
  is_unlocked new after m was is there book_is marks_are =
      let (v, found) = some_of (fin.get book name) there in
      rw (found, was) (refl, ap (λ s. (reply.Unlocked, s)) (whole_book (marked_book new after) _ _ book_is (marks_are ∙ ap (marked marks name) is)))

  pub not_unlocked : (new : Accounts) (after : List ℕ → Mark) → (marks name).locked ≡ true → fin.contains_key book name ≡ true → new ≡ book → after ≡ marks → OperatesWithin room (marked_book book marks) (marked_book new after) (Unlock name) (Err error.Memory)
  not_unlocked new after was there book_is marks_are =
      let (v, found) = some_of (fin.get book name) there in
      rw (found, was) (refl, refl, whole_book (marked_book new after) _ _ book_is marks_are)

  pub was_unlocked : (marks name).locked ≡ false → fin.contains_key book name ≡ true → OperatesWithin room (marked_book book marks) (marked_book book marks) (Unlock name) (Ok reply.NotLocked)
  was_unlocked was there =
      let (v, found) = some_of (fin.get book name) there in
      rw (found, was) (refl, refl)

  pub none_unlocked : (new : Accounts) (after : List ℕ → Mark) → fin.contains_key book name ≡ false → new ≡ book → after ≡ marks → OperatesWithin room (marked_book book marks) (marked_book new after) (Unlock name) (Ok reply.NoAccount)
  none_unlocked new after absent book_is marks_are = rw (none_of (fin.get book name) absent) (refl, ap (λ s. (reply.NoAccount, s)) (whole_book (marked_book new after) _ _ book_is marks_are))

  pub is_expired : (new : Accounts) (after : List ℕ → Mark) (m : Mark) (v : RecordValue) → fin.get book name ≡ Some (Some v) → m ≡ expired (marks name) → new ≡ book → after ≡ marked marks name m
      → OperatesWithin room (marked_book book marks) (marked_book new after) (Expire name) (Ok reply.Expired)
  is_expired new after m v found is book_is marks_are = rw found (refl, ap (λ s. (reply.Expired, s)) (whole_book (marked_book new after) _ _ book_is (marks_are ∙ ap (marked marks name) is)))

  pub not_expired : (new : Accounts) (after : List ℕ → Mark) (v : RecordValue) → fin.get book name ≡ Some (Some v) → new ≡ book → after ≡ marks → OperatesWithin room (marked_book book marks) (marked_book new after) (Expire name) (Err error.Memory)
  not_expired new after v found book_is marks_are = rw found (refl, refl, whole_book (marked_book new after) _ _ book_is marks_are)

-- these together
pub ruleset renaming = (no_name, taken, no_room, moved, not_moved)

pub ruleset deleting = (deleted, not_deleted, none_deleted)

pub ruleset marking = (is_locked, not_locked, none_locked, is_unlocked, not_unlocked, was_unlocked, none_unlocked, is_expired, not_expired)
