-- A step: one whole operation at a copy of an account's record, for a store that replaces the copy
-- by the new record if the copy is still there.
use Rattle.std.specs.Prelude.{◌≡◌, ◌⊎◌, ℕ, ◌==◌, if◌then◌else◌, List, [], length, Option, Some, None}
use Rattle.std.specs.Option.{option_map}
use Rattle.cred_phc.specs.{Errors.error_number, Faults.record_fault, Faults.setting_fault, Text.IsRecordText, Text.IsSettingText, Text.record_text}
use Rattle.cred_phc.specs.Values.{IsRecord, IsSetting, RecordValue, password_fits}
use Rattle.cred_book.specs.{Works.makes_change, declared.request.Reply.Reply}
use Rattle.cred_book.specs.declared.request.Reply.TheVariants as reply
use Rattle.cred_book.specs.declared.request.Request.{Request}
use Rattle.cred_book.specs.declared.request.Request.TheVariants as request
use Rattle.cred_c.specs.{Answers.IsWritten, Answers.Output, declared.operation.RecordOperation.RecordOperation}
use Rattle.cred_c.specs.declared.operation.RecordOperation.TheVariants.{Enrol, Verify, Change, Upgrade, Remove}
use Rattle.cred_c.specs.{declared.operation.StepFault.StepFault, declared.operation.StepInputs.StepInputs}
use Rattle.cred_c.specs.declared.operation.StepFault.TheVariants.{Copy, Long, Setting}

-- ---- what is asked

abbrev pub operation_number : RecordOperation → ℕ
operation_number Enrol = 1
operation_number Verify = 2
operation_number Change = 3
operation_number Upgrade = 4
operation_number Remove = 5

abbrev pub IsOperation : ℕ → Type 0
IsOperation number =
    (number ≡ 1) ⊎ (number ≡ 2) ⊎ (number ≡ 3) ⊎ (number ≡ 4) ⊎ (number ≡ 5)

-- the request that an operation and a step's inputs ask for; its name may be any
abbrev pub AsksFor : RecordOperation → StepInputs → Request → Type 0
AsksFor operation i (request.Enrol name pw setting) =
    (operation ≡ Enrol) × (pw ≡ i.pw.now)
    × IsSetting setting × IsSettingText i.setting.now setting
AsksFor operation i (request.Verify name pw) = (operation ≡ Verify) × (pw ≡ i.pw.now)
AsksFor operation i (request.Change name pw new setting) =
    (operation ≡ Change) × (pw ≡ i.pw.now) × (new ≡ i.new_pw.now)
    × IsSetting setting × IsSettingText i.setting.now setting
AsksFor operation i (request.Upgrade name pw setting) =
    (operation ≡ Upgrade) × (pw ≡ i.pw.now)
    × IsSetting setting × IsSettingText i.setting.now setting
AsksFor operation i (request.Remove name pw) = (operation ≡ Remove) × (pw ≡ i.pw.now)

-- the record that a copy's text stands for: none if the text is empty
abbrev pub IsCopy : List ℕ → Option RecordValue → Type 0
IsCopy text None = text ≡ []
IsCopy text (Some stored) = IsRecord stored × IsRecordText text stored

-- ---- what is wrong with it

abbrev pub fault_number : StepFault → ℕ
fault_number Copy = 24
fault_number Long = 25
fault_number (Setting e) = error_number e

abbrev pub first : Option StepFault → Option StepFault → Option StepFault
first (Some e) later = Some e
first None later = later

abbrev pub copy_fault : List ℕ → Option StepFault
copy_fault text = if length text == 0 then None else option_map (λ _. Copy) (record_fault text)

abbrev pub password_fault : List ℕ → Option StepFault
password_fault pw = if password_fits pw then None else Some Long

abbrev pub new_setting_fault : List ℕ → Option StepFault
new_setting_fault text = option_map Setting (setting_fault text)

-- only what the operation reads is judged
abbrev pub request_fault : RecordOperation → StepInputs → Option StepFault
request_fault Enrol i = first (password_fault i.pw.now) (new_setting_fault i.setting.now)
request_fault Verify i = password_fault i.pw.now
request_fault Change i =
    first (password_fault i.pw.now)
    (first (password_fault i.new_pw.now) (new_setting_fault i.setting.now))
request_fault Upgrade i = first (password_fault i.pw.now) (new_setting_fault i.setting.now)
request_fault Remove i = password_fault i.pw.now

abbrev pub step_fault : RecordOperation → StepInputs → Option StepFault
step_fault operation i = first (copy_fault i.copy.now) (request_fault operation i)

-- ---- what is answered

-- the number of a reply, in their order; a step at a copy never answers the last two
abbrev pub reply_number : Reply → ℕ
reply_number reply.Enrolled = 1
reply_number reply.Exists = 2
reply_number reply.Yes = 3
reply_number reply.No = 4
reply_number reply.Absent = 5
reply_number reply.Replaced = 6
reply_number reply.Wrong = 7
reply_number reply.Upgraded = 8
reply_number reply.Kept = 9
reply_number reply.Removed = 10
reply_number (reply.Changed now) = 11
reply_number reply.NoAccount = 12

-- the text that will replace the copy: empty if nothing changes, or if the change removes the
-- record
abbrev pub text_after : Reply × Option (Option RecordValue) → List ℕ
text_after (r, None) = []
text_after (r, Some None) = []
text_after (r, Some (Some stored)) = if makes_change r then record_text stored else []

-- a conditional update's reply, and the record that it puts in place of the copy
pub record IsStep (outcome : Reply × Option (Option RecordValue)) (reply : ℕ) (o : Output)
    : Type 0 where
  pub text : IsWritten (text_after outcome) o
  pub reply_of : o.answer ≡ 0 → reply ≡ reply_number outcome.0
