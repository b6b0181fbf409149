-- The account of which an answer tells, and the part of a password that counts.
use Rattle.std.proofs.Common.{◌≡◌, ◌≢◌, ℕ, List, length, Bool, true, false, cond, Option, Some, None, IfSome, unwrap_or, Ordering, Equal, is_eq, refl, ap, ◌∙◌}
use Rattle.std.specs.FinMap as map
use Rattle.std.specs.{Cmp.Lexicographic.nat_list_cmp_total, Ordering.eq_by_cmp, Str.bytes_eq}
use Rattle.cred_phc.specs.{Values.RecordValue, Values.SettingValue, Values.record_of}
use Rattle.cred_book.specs.{Accounts.Accounts, Names.name_cmp, Passwords.KeepsTags, Passwords.made_setting, Passwords.with_passwords, Works.name_of, Works.new_record, Works.right, Works.seq, Works.seq_at, Works.whole, declared.request.Request.Request}
use Rattle.cred_book.specs.declared.request.Request.TheVariants.{Enrol, Verify, Change, Upgrade, Remove}
use Rattle.cred_book.specs.declared.request.Reply.TheVariants as reply
use Rattle.cred_book.proofs.Rows.{same_names}

-- ---- one account

told_at : (one other : Accounts) (r : Request) (now : Option (Option RecordValue)) → (seq_at one r now).0 ≡ (seq_at other r now).0
told_at one other r None = refl
told_at one other r (Some now) = refl

pub told : (one other : Accounts) (r : Request) → map.get one (name_of r) ≡ map.get other (name_of r) → (seq one r).0 ≡ (seq other r).0
unfolding seq
told one other r same = told_at one other r (map.get one (name_of r)) ∙ ap (λ now. (seq_at other r now).0) same

is_equal : (o : Ordering) → is_eq o ≡ true → o ≡ Equal
is_equal Equal e = refl
is_equal _ e = absurd cc

-- names that differ don't tie
module _ (name key : List ℕ) (other : name ≢ key) where
  apart_by : {X : Type 0} (b : Bool) → eq_by_cmp name_cmp name key ≡ b → (here there : X) → cond b here there ≡ there
  apart_by true tie here there = absurd (other (same_names name key (is_equal (name_cmp name key) tie)))
  apart_by false tie here there = refl

  pub get_beside : (m : Accounts) (v : Option RecordValue) → map.get (map.insert m key v) name ≡ map.get m name
  get_beside m v = map.get-insert nat_list_cmp_total m key v name ∙ apart_by _ refl _ _

  pub get_without : (m : Accounts) → map.get (map.remove m key) name ≡ map.get m name
  get_without m = map.get-remove nat_list_cmp_total m key name ∙ apart_by _ refl _ _

kept_at : (book : Accounts) (r : Request) (name : List ℕ) (now : Option (Option RecordValue)) → name ≢ name_of r → map.get (seq_at book r now).1 name ≡ map.get book name
kept_at book r name None other = refl
kept_at book r name (Some now) other = get_beside name (name_of r) other book (whole r now).1

pub kept : (book : Accounts) (r : Request) (name : List ℕ) → name ≢ name_of r → map.get (seq book r).1 name ≡ map.get book name
unfolding seq
kept book r name other = kept_at book r name (map.get book (name_of r)) other

-- ---- passwords

module _ (other : List ℕ → List ℕ) where
  as_right : (stored : RecordValue) (pw : List ℕ) → KeepsTags other stored.setting (length stored.tag) → right stored (other pw) ≡ right stored pw
  unfolding right
  as_right stored pw keeps = ap (λ t. bytes_eq t stored.tag) (keeps pw)

  pub as_new : (setting : SettingValue) (pw : List ℕ) → KeepsTags other setting 32 → new_record setting (other pw) ≡ new_record setting pw
  as_new setting pw keeps = ap (record_of setting) (keeps pw)

  pub as_whole : (r : Request) (now : Option RecordValue) → IfSome now (λ stored. KeepsTags other stored.setting (length stored.tag)) → IfSome (made_setting r) (λ setting. KeepsTags other setting 32)
      → whole (with_passwords other r) now ≡ whole r now
  as_whole (Enrol name pw setting) None standing made = ap (λ new. (reply.Enrolled, Some new)) (as_new setting pw made)
  as_whole (Verify name pw) (Some stored) standing made = rw (as_right stored pw standing) refl
  as_whole (Change name pw new setting) (Some stored) standing made = rw (as_right stored pw standing, as_new setting new made) refl
  as_whole (Upgrade name pw setting) (Some stored) standing made = rw (as_right stored pw standing, as_new setting pw made) refl
  as_whole (Remove name pw) (Some stored) standing made = rw (as_right stored pw standing) refl
  as_whole _ _ standing made = refl

  as_at : (book : Accounts) (r : Request) (now : Option (Option RecordValue)) → name_of (with_passwords other r) ≡ name_of r → IfSome (unwrap_or now None) (λ stored. KeepsTags other stored.setting (length stored.tag))
      → IfSome (made_setting r) (λ setting. KeepsTags other setting 32) → seq_at book (with_passwords other r) now ≡ seq_at book r now
  as_at book r None name standing made = refl
  as_at book r (Some now) name standing made = rw (as_whole r now standing made, name) refl

  pub as_seq : (book : Accounts) (r : Request) → IfSome (unwrap_or (map.get book (name_of r)) None) (λ stored. KeepsTags other stored.setting (length stored.tag)) → IfSome (made_setting r) (λ setting. KeepsTags other setting 32)
      → seq book (with_passwords other r) ≡ seq book r
  unfolding seq
  as_seq book (Enrol name pw setting) = as_at book (Enrol name pw setting) (map.get book name) refl
  as_seq book (Verify name pw) = as_at book (Verify name pw) (map.get book name) refl
  as_seq book (Change name pw new setting) = as_at book (Change name pw new setting) (map.get book name) refl
  as_seq book (Upgrade name pw setting) = as_at book (Upgrade name pw setting) (map.get book name) refl
  as_seq book (Remove name pw) = as_at book (Remove name pw) (map.get book name) refl
