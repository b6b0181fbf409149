-- One whole operation, whatever makes its tags.
use Rattle.std.specs.Prelude.{ℕ, List, length, Bool, not, if◌then◌else◌, Option, Some, None}
use Rattle.std.specs.Str.{bytes_eq}
use Rattle.cred_phc.specs.{Values.SettingValue, Values.RecordValue, Values.record_of}
use Rattle.cred_book.specs.{Works.same_scheme, declared.request.Request.Request}
use Rattle.cred_book.specs.declared.request.Request.TheVariants.{Enrol, Verify, Change, Upgrade, Remove}
use Rattle.cred_book.specs.declared.request.Reply.{Reply}
use Rattle.cred_book.specs.declared.request.Reply.TheVariants as reply

-- a tag of so many bytes for a password under a setting
abbrev pub TagFunction : Type 0
TagFunction = SettingValue → ℕ → List ℕ → List ℕ

-- `right`, `new_record`, `upgrade_outcome` and `whole`, with this function's tags
abbrev pub right_by : TagFunction → RecordValue → List ℕ → Bool
right_by tag_by stored pw = bytes_eq (tag_by stored.setting (length stored.tag) pw) stored.tag

abbrev pub new_record_by : TagFunction → SettingValue → List ℕ → RecordValue
new_record_by tag_by setting pw = record_of setting (tag_by setting 32 pw)

abbrev pub upgrade_by :
    TagFunction → RecordValue → List ℕ → SettingValue → Reply × Option RecordValue
upgrade_by tag_by stored pw setting =
    if not (right_by tag_by stored pw) then (reply.Wrong, Some stored)
    else if same_scheme stored.setting.scheme setting.scheme then (reply.Kept, Some stored)
    else (reply.Upgraded, Some (new_record_by tag_by setting pw))

abbrev pub whole_by : TagFunction → Request → Option RecordValue → Reply × Option RecordValue
whole_by tag_by (Enrol name pw setting) (Some stored) = (reply.Exists, Some stored)
whole_by tag_by (Enrol name pw setting) None =
    (reply.Enrolled, Some (new_record_by tag_by setting pw))
whole_by tag_by (Verify name pw) None = (reply.Absent, None)
whole_by tag_by (Verify name pw) (Some stored) =
    (if right_by tag_by stored pw then reply.Yes else reply.No, Some stored)
whole_by tag_by (Change name pw new setting) None = (reply.Absent, None)
whole_by tag_by (Change name pw new setting) (Some stored) =
    if right_by tag_by stored pw then (reply.Replaced, Some (new_record_by tag_by setting new))
    else (reply.Wrong, Some stored)
whole_by tag_by (Upgrade name pw setting) None = (reply.Absent, None)
whole_by tag_by (Upgrade name pw setting) (Some stored) = upgrade_by tag_by stored pw setting
whole_by tag_by (Remove name pw) None = (reply.Absent, None)
whole_by tag_by (Remove name pw) (Some stored) =
    if right_by tag_by stored pw then (reply.Removed, None) else (reply.Wrong, Some stored)
