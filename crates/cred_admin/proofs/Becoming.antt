-- A kept book after a call.
use Rattle.std.proofs.Common.{◌≡◌, ℕ, List, Option, Some, None, Result, Ok, Err, OnOk, OnErr, Bool, true, false, if◌then◌else◌, refl, sym, ap, ◌∙◌}
use Rattle.cred_phc.specs.Values.{RecordValue}
use Rattle.cred_book.specs.{Accounts.Accounts, Calls.AdmitsWithin, Calls.Loads, Commits.Commits, Commits.commit_outcome, Works.Task, declared.error.BookError.BookError, declared.request.Reply.Reply}
use Rattle.cred_file.specs.{Cells.cells_of, Cells.mark_in as cell_mark, Cells.marked, Cells.renewed, Cells.unmarked, Changes.PutsEntry, Changes.TakesIn, Changes.taken_in, declared.marks.Mark.Mark}
use Rattle.cred_file.proofs.CellLaws.{mark_absent, mark_here}
use Rattle.cred_admin.specs.Marked.{Becomes, MarkedBook, mark_in, marked_book, with_put}
use Rattle.cred_admin.proofs.Heeding.{book_is}
use Rattle.std.specs.FinMap as map
use Rattle.cred_book.specs.declared.error.BookError.TheVariants as error

became : {A E : Type 0} (r : Result A E) (old new after : MarkedBook) → OnOk r (new.accounts ≡ after.accounts) × OnErr r (new.accounts ≡ old.accounts) → OnOk r (new.marks ≡ after.marks) → OnErr r (new.marks ≡ old.marks)
    → Becomes r old new after
became (Ok u) old new after accounts marks stays = (book_is new after.accounts after.marks accounts.0 marks, tt)
became (Err e) old new after accounts marks stays = (tt, book_is new old.accounts old.marks accounts.1 stays)

-- the accounts alone

admits : (r : Result (Unit {0}) BookError) (room : ℕ) (old new : Accounts) (name : List ℕ) → AdmitsWithin room old new name r → OnOk r (new ≡ map.insert old name None) × OnErr r (new ≡ old)
admits (Ok u) room old new name h = (h.2, tt)
admits (Err error.Exists) room old new name h = (tt, h.1)
admits (Err error.Full) room old new name h = (tt, h.2)
admits (Err error.Memory) room old new name h = (tt, h.2)
admits (Err _) room old new name h = absurd h

loads : (r : Result (Unit {0}) BookError) (old new : Accounts) (name : List ℕ) (stored : RecordValue) → Loads old new name stored r → OnOk r (new ≡ map.insert old name (Some stored)) × OnErr r (new ≡ old)
loads (Ok u) old new name stored h = (h.1, tt)
loads (Err error.NoAccount) old new name stored h = (tt, h.1)
loads (Err error.Memory) old new name stored h = (tt, h.1)
loads (Err _) old new name stored h = absurd h

puts : (r : Result (Unit {0}) BookError) (room : ℕ) (old new : Accounts) (name : List ℕ) (stored : Option RecordValue) → PutsEntry room old new name stored r → OnOk r (new ≡ map.insert old name stored) × OnErr r (new ≡ old)
puts (Ok u) room old new name stored h = (h.1, tt)
puts (Err error.Full) room old new name stored h = (tt, h.1)
puts (Err error.Memory) room old new name stored h = (tt, h.1)
puts (Err _) room old new name stored h = absurd h

commits : (r : Result Reply (Task × BookError)) (old new : Accounts) (work : Task) → Commits old new work r → OnOk r (new ≡ (commit_outcome old work).1) × OnErr r (new ≡ old)
commits (Ok reply) old new work h = (ap (λ (o : Reply × Accounts). o.1) h, tt)
commits (Err (back, error.Memory)) old new work h = (tt, h.1)
commits (Err (back, _)) old new work h = absurd h

takes : (r : Result (Unit {0}) BookError) (room : ℕ) (old new changed : Accounts) → TakesIn room old new map.empty changed r → OnOk r (new ≡ taken_in old map.empty changed) × OnErr r (new ≡ old)
takes (Ok u) room old new changed h = (h.2, tt)
takes (Err error.Exists) room old new changed h = (tt, h.1)
takes (Err error.NoAccount) room old new changed h = (tt, h.1)
takes (Err error.Full) room old new changed h = (tt, h.2)
takes (Err error.Memory) room old new changed h = (tt, h.2)
takes (Err _) room old new changed h = absurd h

-- with their marks

module _ (book new : Accounts) (marks now : List ℕ → Mark) where
  pub admitted : (r : Result (Unit {0}) BookError) (room : ℕ) (name : List ℕ) (after : List ℕ → Mark) → AdmitsWithin room book new name r → OnOk r (now ≡ after) → OnErr r (now ≡ marks)
      → Becomes r (marked_book book marks) (marked_book new now) (marked_book (map.insert book name None) after)
  admitted r room name after h = became r _ _ _ (admits r room book new name h)

  pub loaded : (r : Result (Unit {0}) BookError) (name : List ℕ) (stored : RecordValue) (after : List ℕ → Mark) → Loads book new name stored r → OnOk r (now ≡ after) → OnErr r (now ≡ marks)
      → Becomes r (marked_book book marks) (marked_book new now) (marked_book (map.insert book name (Some stored)) after)
  loaded r name stored after h = became r _ _ _ (loads r book new name stored h)

  pub committed_whole : (r : Result Reply (Task × BookError)) (work : Task) (after : List ℕ → Mark) → Commits book new work r → OnOk r (now ≡ after) → OnErr r (now ≡ marks)
      → Becomes r (marked_book book marks) (marked_book new now) (marked_book (commit_outcome book work).1 after)
  committed_whole r work after h = became r _ _ _ (commits r book new work h)

  pub replaced : (r : Result (Unit {0}) BookError) (room : ℕ) (changed : Accounts) (after : List ℕ → Mark) → TakesIn room book new map.empty changed r → OnOk r (now ≡ after) → OnErr r (now ≡ marks)
      → Becomes r (marked_book book marks) (marked_book new now) (marked_book (taken_in book map.empty changed) after)
  replaced r room changed after h = became r _ _ _ (takes r room book new changed h)

-- the mark of a cell is that of the account, if there is one
mark_is : (book : Accounts) (marks : List ℕ → Mark) (name : List ℕ) → cell_mark (cells_of book marks) name ≡ mark_in (marked_book book marks) name
mark_is book marks name = by_there (map.contains_key book name) refl
  where
    by_there : (b : Bool) → map.contains_key book name ≡ b → cell_mark (cells_of book marks) name ≡ (if b then marks name else unmarked)
    by_there true there = mark_here marks book name there
    by_there false absent = mark_absent marks book name absent

-- a record is put, at an account or at a new name
pub put_anew : (book new : Accounts) (marks now : List ℕ → Mark) (r : Result (Unit {0}) BookError) (room : ℕ) (name : List ℕ) (stored : Option RecordValue) → PutsEntry room book new name stored r
    → OnOk r (now ≡ marked marks name (renewed (cell_mark (cells_of book marks) name))) → OnErr r (now ≡ marks) → Becomes r (marked_book book marks) (marked_book new now) (with_put (marked_book book marks) name stored)
put_anew book new marks now r room name stored h after stays =
    became r _ _ _ (puts r room book new name stored h) (rw (mark_is book marks name) at after) stays
