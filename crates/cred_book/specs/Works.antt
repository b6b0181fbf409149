-- One whole operation, done at the present record.
use Rattle.std.specs.Prelude.{ℕ, List, length, Bool, true, false, ◌&&◌, not, ◌==◌, if◌then◌else◌, Option, Some, None}
use Rattle.std.specs.Str.{bytes_eq}
use Rattle.std.specs.FinMap as map
use Rattle.cred_phc.specs.{declared.setting.Scheme.Scheme, declared.setting.Scheme.TheVariants.Argon2, declared.setting.Scheme.TheVariants.Scrypt}
use Rattle.cred_phc.specs.{Names.Version, Names.V10, Names.V13, declared.setting.Variant.Variant}
use Rattle.cred_phc.specs.declared.setting.Variant.TheVariants.{D, I, Id}
use Rattle.cred_phc.specs.{Ranges.is_current, Tags.tag, Values.SettingValue, Values.RecordValue, Values.record_of}
use Rattle.cred_book.specs.{Accounts.Accounts, declared.request.Request.Request}
use Rattle.cred_book.specs.declared.request.Request.TheVariants.{Enrol, Verify, Change, Upgrade, Remove}
use Rattle.cred_book.specs.declared.request.Reply.{Reply}
use Rattle.cred_book.specs.declared.request.Reply.TheVariants as reply

-- ---- equality of records, as a test

abbrev pub same_version : Version → Version → Bool
same_version V10 V10 = true
same_version V13 V13 = true
same_version _ _ = false

abbrev pub same_variant : Variant → Variant → Bool
same_variant D D = true
same_variant I I = true
same_variant Id Id = true
same_variant _ _ = false

abbrev pub same_scheme : Scheme → Scheme → Bool
same_scheme (Argon2 v k m t p) (Argon2 v' k' m' t' p') =
    same_version v v' && (same_variant k k' && ((m == m') && ((t == t') && (p == p'))))
same_scheme (Scrypt ln r p) (Scrypt ln' r' p') = (ln == ln') && ((r == r') && (p == p'))
same_scheme _ _ = false

abbrev pub same_record : RecordValue → RecordValue → Bool
same_record a b =
    same_scheme a.setting.scheme b.setting.scheme
    && (bytes_eq a.setting.salt b.setting.salt && bytes_eq a.tag b.tag)

abbrev pub same : Option RecordValue → Option RecordValue → Bool
same None None = true
same (Some a) (Some b) = same_record a b
same _ _ = false

-- ---- whole operations

-- the tag of the password under the record's setting, with the length of its tag, is its tag
unfoldable pub right : RecordValue → List ℕ → Bool
right stored pw = bytes_eq (tag stored.setting (length stored.tag) pw) stored.tag

-- the record of a password under a setting
abbrev pub new_record : SettingValue → List ℕ → RecordValue
new_record setting pw = record_of setting (tag setting 32 pw)

abbrev pub name_of : Request → List ℕ
name_of (Enrol name pw setting) = name
name_of (Verify name pw) = name
name_of (Change name pw new setting) = name
name_of (Upgrade name pw setting) = name
name_of (Remove name pw) = name

abbrev pub is_verify : Request → Bool
is_verify (Verify name pw) = true
is_verify _ = false

-- the setting of a new record isn't of the version of old ones
abbrev pub is_for_current : Request → Bool
is_for_current (Enrol name pw setting) = is_current setting.scheme
is_for_current (Verify name pw) = true
is_for_current (Change name pw new setting) = is_current setting.scheme
is_for_current (Upgrade name pw setting) = is_current setting.scheme
is_for_current (Remove name pw) = true

-- an upgrade judges the password first; salt and tag length play no part in whether the record is
-- kept
abbrev pub upgrade_outcome : RecordValue → List ℕ → SettingValue → Reply × Option RecordValue
upgrade_outcome stored pw setting =
    if not (right stored pw) then (reply.Wrong, Some stored)
    else if same_scheme stored.setting.scheme setting.scheme then (reply.Kept, Some stored)
    else (reply.Upgraded, Some (new_record setting pw))

-- the reply, and the record after
abbrev pub whole : Request → Option RecordValue → Reply × Option RecordValue
whole (Enrol name pw setting) (Some stored) = (reply.Exists, Some stored)
whole (Enrol name pw setting) None = (reply.Enrolled, Some (new_record setting pw))
whole (Verify name pw) None = (reply.Absent, None)
whole (Verify name pw) (Some stored) =
    (if right stored pw then reply.Yes else reply.No, Some stored)
whole (Change name pw new setting) None = (reply.Absent, None)
whole (Change name pw new setting) (Some stored) =
    if right stored pw then (reply.Replaced, Some (new_record setting new))
    else (reply.Wrong, Some stored)
whole (Upgrade name pw setting) None = (reply.Absent, None)
whole (Upgrade name pw setting) (Some stored) = upgrade_outcome stored pw setting
whole (Remove name pw) None = (reply.Absent, None)
whole (Remove name pw) (Some stored) =
    if right stored pw then (reply.Removed, None) else (reply.Wrong, Some stored)

-- the replies to operations that make a change
abbrev pub makes_change : Reply → Bool
makes_change reply.Enrolled = true
makes_change reply.Replaced = true
makes_change reply.Upgraded = true
makes_change reply.Removed = true
makes_change _ = false

-- ---- on a book

abbrev pub seq_at : Accounts → Request → Option (Option RecordValue) → Reply × Accounts
seq_at book request None = (reply.NoAccount, book)
seq_at book request (Some now) =
    ((whole request now).0, map.insert book (name_of request) (whole request now).1)

-- a whole operation on the record of the request's name
unfoldable pub seq : Accounts → Request → Reply × Accounts
seq book request = seq_at book request (map.get book (name_of request))

-- a request with the copy of its account's record
abbrev pub Task : Type 0
Task = Request × Option RecordValue
