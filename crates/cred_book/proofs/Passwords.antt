-- The meaning of a yes for the password.
use Rattle.std.proofs.Common.{◌≡◌, ℕ, List, Bool, true, false, length, Option, Some, None, if◌then◌else◌, refl}
use Rattle.std.specs.Bool.{Decides}
use Rattle.std.specs.FinMap as map
use Rattle.std.proofs.lemmas.Slice.Eq.{bytes_eq-Decides}
use Rattle.cred_phc.specs.{Tags.tag, Values.RecordValue}
use Rattle.cred_book.specs.{Accounts.Accounts, Commits.judgement, Commits.judgement_at, Commits.judgement_if, Passwords.IsPasswordAt, Passwords.IsPasswordOf}
use Rattle.cred_book.specs.Works.{right, same, whole}
use Rattle.cred_book.specs.declared.request.Reply.TheVariants as reply
use Rattle.cred_book.specs.declared.request.Request.TheVariants.{Verify}

right_decides : (stored : RecordValue) (pw : List ℕ) → Decides (right stored pw) (IsPasswordOf stored pw)
unfolding right
right_decides stored pw = bytes_eq-Decides (tag stored.setting (length stored.tag) pw) stored.tag

yes_if : (is : Bool) (P : Type 0) → Decides is P → ((if is then reply.Yes else reply.No) ≡ reply.Yes → P) × (P → (if is then reply.Yes else reply.No) ≡ reply.Yes)
yes_if true P d = (λ said. d.0 refl, λ holds. refl)
yes_if false P d = (λ said. absurd cc, λ holds. let is = d.1 holds in absurd cc)

pub yes_at_copy : (name pw : List ℕ) (stored : RecordValue)
    → ((whole (Verify name pw) (Some stored)).0 ≡ reply.Yes → IsPasswordOf stored pw) × (IsPasswordOf stored pw → (whole (Verify name pw) (Some stored)).0 ≡ reply.Yes)
yes_at_copy name pw stored = yes_if (right stored pw) (IsPasswordOf stored pw) (right_decides stored pw)

-- the password is one of the record that was found
abbrev IsFoundBy : List ℕ → Option (Option RecordValue) → Type 0
IsFoundBy pw found = (stored : RecordValue) × (found ≡ Some (Some stored)) × IsPasswordOf stored pw

yes_now : (name pw : List ℕ) (copy now : Option RecordValue) (fresh : Bool) → (judgement_if (Verify name pw, copy) now fresh).0 ≡ reply.Yes → IsFoundBy pw (Some now)
yes_now name pw copy None true said = absurd cc
yes_now name pw copy (Some stored) true said = (stored, refl, (yes_at_copy name pw stored).0 said)
yes_now name pw copy now false said = absurd cc

yes_found : (name pw : List ℕ) (copy : Option RecordValue) (found : Option (Option RecordValue)) → (judgement_at (Verify name pw, copy) found).0 ≡ reply.Yes → IsFoundBy pw found
yes_found name pw copy None said = absurd cc
yes_found name pw copy (Some now) said = yes_now name pw copy now (same now copy) said

pub yes_at_judgement : (book : Accounts) (name pw : List ℕ) (copy : Option RecordValue) → (judgement book (Verify name pw, copy)).0 ≡ reply.Yes → IsPasswordAt book name pw
unfolding judgement
yes_at_judgement book name pw copy said = yes_found name pw copy (map.get book name) said
