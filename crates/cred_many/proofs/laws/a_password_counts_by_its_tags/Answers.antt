use Rattle.std.proofs.Common.{◌≡◌, ℕ, List, Bool, true, false, Option, Some, None, IfSome, unwrap_or, length, if◌then◌else◌, refl, ap, ◌∙◌}
use Rattle.cred_phc.specs.Values.{RecordValue}
use Rattle.cred_book.specs.{Passwords.KeepsTags, Passwords.made_setting, Works.name_of, Works.whole, declared.request.Request.Request, declared.request.Reply.Reply}
use Rattle.cred_book.proofs.Telling.{as_new, as_whole}
use Rattle.cred_cli.specs.Texts.{reply_line}
use Rattle.cred_file.specs.declared.marks.Mark.{Mark}
use Rattle.cred_admin.specs.{PasswordOperations.reset_step, Marked.MarkedBook, Marked.barred, Marked.due, Marked.keeps_password, Marked.shut, Marked.tried, Marked.tried_at, Marked.tried_if, Statuses.verdict_line}
use Rattle.cred_admin.specs.declared.verdict.Verdict.{Verdict}
use Rattle.cred_admin.specs.declared.verdict.Verdict.TheVariants.{Same, Told}
use Rattle.cred_many.specs.{Served.done, Served.login_verdict, Telling.KeepsTagsFor, Telling.with_passwords, declared.line_operation.LineOperation.LineOperation}
use Rattle.cred_many.specs.declared.line_operation.LineOperation.TheVariants.{Quick, Whole, Login, Reset, Forgive, Later}
use Rattle.cred_book.specs.declared.request.Request.TheVariants.{Enrol, Verify, Change, Upgrade, Remove}
use Rattle.cred_book.specs.Passwords as book_passwords
use Rattle.cred_book.specs.declared.request.Reply.TheVariants as reply
use Rattle.std.specs.FinMap as map
use Rattle.cred_many.proofs.laws.a_password_counts_by_its_tags.Goals as goal

module _ (other : List ℕ → List ℕ) where
  abbrev put : Request → Request
  put r = book_passwords.with_passwords other r

  as_shut : (r : Request) (now : Option RecordValue) → shut (put r) now ≡ shut r now
  as_shut (Enrol name pw setting) now = refl
  as_shut (Verify name pw) None = refl
  as_shut (Verify name pw) (Some stored) = refl
  as_shut (Change name pw new setting) None = refl
  as_shut (Change name pw new setting) (Some stored) = refl
  as_shut (Upgrade name pw setting) None = refl
  as_shut (Upgrade name pw setting) (Some stored) = refl
  as_shut (Remove name pw) None = refl
  as_shut (Remove name pw) (Some stored) = refl

  as_due : (r : Request) (q : Reply) → keeps_password (put r) ≡ keeps_password r → due (put r) q ≡ due r q
  as_due r reply.Replaced keeps = ap (λ (k : Bool). if k then Some Same else None) keeps
  as_due r _ keeps = refl

  either : (l c : Bool) (a one b two : Option Verdict) → a ≡ one → (c ≡ true → b ≡ two) → (if l then a else if c then b else None) ≡ (if l then one else if c then two else None)
  either true c a one b two first second = first
  either false true a one b two first second = second refl
  either false false a one b two first second = refl

  module _ (book : MarkedBook) (r : Request) (now : Option RecordValue) (whole_is : whole (put r) now ≡ whole r now) (name : name_of (put r) ≡ name_of r) where
    as_barred : (m : Mark) → (m.must_change ≡ true → keeps_password (put r) ≡ keeps_password r) → barred m (put r) now ≡ barred m r now
    as_barred m keeps =
        either m.locked m.must_change _ _ _ _ (ap (λ q. Some (Told q)) (as_shut r now))
        (λ must. ap (λ (o : Reply × Option RecordValue). due (put r) o.0) whole_is ∙ as_due r (whole r now).0 (keeps must))

    as_tried_if : (o : Option Verdict) → tried_if book (put r) now o ≡ tried_if book r now o
    as_tried_if (Some v) = refl
    as_tried_if None = rw (whole_is, name) refl

    as_tried_some : ((book.marks (name_of r)).must_change ≡ true → keeps_password (put r) ≡ keeps_password r) → tried_at book (put r) (Some now) ≡ tried_at book r (Some now)
    as_tried_some keeps =
        ap (λ n. tried_if book (put r) now (barred (book.marks n) (put r) now)) name
        ∙ ap (tried_if book (put r) now) (as_barred (book.marks (name_of r)) keeps)
        ∙ as_tried_if (barred (book.marks (name_of r)) r now)

  as_tried_at : (book : MarkedBook) (r : Request) (now : Option (Option RecordValue)) → name_of (put r) ≡ name_of r → IfSome (unwrap_or now None) (λ stored. KeepsTags other stored.setting (length stored.tag))
      → IfSome (made_setting r) (λ setting. KeepsTags other setting 32) → ((book.marks (name_of r)).must_change ≡ true → keeps_password (put r) ≡ keeps_password r) → tried_at book (put r) now ≡ tried_at book r now
  as_tried_at book r None name standing made keeps = refl
  as_tried_at book r (Some now) name standing made keeps = as_tried_some book r now (as_whole other r now standing made) name keeps

  as_tried : (book : MarkedBook) (r : Request) → IfSome (unwrap_or (map.get book.accounts (name_of r)) None) (λ stored. KeepsTags other stored.setting (length stored.tag)) → IfSome (made_setting r) (λ setting. KeepsTags other setting 32)
      → ((book.marks (name_of r)).must_change ≡ true → keeps_password (put r) ≡ keeps_password r) → tried book (put r) ≡ tried book r
  unfolding tried
  as_tried book (Enrol name pw setting) = as_tried_at book (Enrol name pw setting) (map.get book.accounts name) refl
  as_tried book (Verify name pw) = as_tried_at book (Verify name pw) (map.get book.accounts name) refl
  as_tried book (Change name pw new setting) = as_tried_at book (Change name pw new setting) (map.get book.accounts name) refl
  as_tried book (Upgrade name pw setting) = as_tried_at book (Upgrade name pw setting) (map.get book.accounts name) refl
  as_tried book (Remove name pw) = as_tried_at book (Remove name pw) (map.get book.accounts name) refl

as_done : (other : List ℕ → List ℕ) (capacity : ℕ) (book : MarkedBook) (operation : LineOperation) → KeepsTagsFor other book operation → done capacity book (with_passwords other operation) ≡ done capacity book operation
as_done other capacity book (Quick operation) keeps = refl
as_done other capacity book (Whole r) (standing, made, same) = ap (λ o. (verdict_line o.0, o.1)) (as_tried other book r standing made same)
as_done other capacity book (Login name pw setting) (standing, made, same) = ap (λ o. (verdict_line (login_verdict o.0), o.1)) (as_tried other book (Upgrade name pw setting) standing made same)
as_done other capacity book (Reset name pw setting) (standing, made, same) = ap (λ stored. (reply_line (reset_step book name stored).0, (reset_step book name stored).1)) (as_new other setting pw made)
as_done other capacity book (Forgive name) keeps = refl
as_done other capacity book (Later name seconds) keeps = refl

pub returns : goal.returns
returns c = as_done
