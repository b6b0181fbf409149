use Rattle.std.proofs.Common.{◌≡◌, ℕ, List, Option, Some, None, refl}
use Rattle.cred_phc.specs.{Tags.tag, Values.RecordValue}
use Rattle.cred_book.specs.{ByTags.TagFunction, ByTags.whole_by, Passwords.with_passwords, Works.right, Works.whole, declared.request.Request.Request}
use Rattle.cred_book.specs.declared.request.Request.TheVariants.{Enrol, Verify, Change, Upgrade, Remove}
use Rattle.cred_book.proofs.laws.passwords_are_seen_by_their_tags.Goals as goal

is_whole : (r : Request) (now : Option RecordValue) → whole_by tag r now ≡ whole r now
unfolding right
is_whole (Enrol name pw setting) None = refl
is_whole (Enrol name pw setting) (Some stored) = refl
is_whole (Verify name pw) None = refl
is_whole (Verify name pw) (Some stored) = refl
is_whole (Change name pw new setting) None = refl
is_whole (Change name pw new setting) (Some stored) = refl
is_whole (Upgrade name pw setting) None = refl
is_whole (Upgrade name pw setting) (Some stored) = refl
is_whole (Remove name pw) None = refl
is_whole (Remove name pw) (Some stored) = refl

by_others : (tag_by : TagFunction) (other : List ℕ → List ℕ) (r : Request) (now : Option RecordValue)
    → whole_by tag_by (with_passwords other r) now ≡ whole_by (λ setting len pw. tag_by setting len (other pw)) r now
by_others tag_by other (Enrol name pw setting) None = refl
by_others tag_by other (Enrol name pw setting) (Some stored) = refl
by_others tag_by other (Verify name pw) None = refl
by_others tag_by other (Verify name pw) (Some stored) = refl
by_others tag_by other (Change name pw new setting) None = refl
by_others tag_by other (Change name pw new setting) (Some stored) = refl
by_others tag_by other (Upgrade name pw setting) None = refl
by_others tag_by other (Upgrade name pw setting) (Some stored) = refl
by_others tag_by other (Remove name pw) None = refl
by_others tag_by other (Remove name pw) (Some stored) = refl

pub returns : goal.returns
returns c = record { whole = is_whole; by_tags = by_others }
