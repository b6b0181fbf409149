-- What a tagged line asks for.
use Rattle.std.specs.{List.list_all, Str.bytes_eq}
use Rattle.std.specs.Prelude.{◌≡◌, ℕ, List, [], ◌∷◌, Bool, ◌&&◌, ◌||◌, if◌then◌else◌, length, nat_le, nat_lt, codes, Option, Some, None, Result, Ok, Err, true, false, IfSome}
use Rattle.cred_phc.specs.{Number.number_of, Pieces.pieces, Ranges.between, Reading.◌>>=◌, Values.SettingValue, declared.error.PhcError.TheVariants.Range}
use Rattle.cred_book.specs.{Works.Task, Works.is_for_current, declared.request.Request.Request}
use Rattle.cred_cli.specs.{Costs.exceeds, Costs.request_exceeds, declared.costs.CostBounds.CostBounds, declared.refusal.Refusal.Refusal}
use Rattle.cred_cli.specs.Events.{longest_line, name_and_password, name_and_record, name_field, name_password_setting, only_name, request_of}
use Rattle.cred_admin.specs.declared.account_operation.AccountOperation.TheVariants.{Disable, Delete, Rename, Lock, Unlock, Expire}
use Rattle.cred_many.specs.{declared.line_operation.LineOperation.LineOperation, declared.line_operation.QuickOperation.QuickOperation}
use Rattle.cred_many.specs.declared.line_operation.LineOperation.TheVariants.{Quick, Whole, Login, Reset, Forgive, Later}
use Rattle.cred_many.specs.declared.line_operation.QuickOperation.TheVariants.{Account, Load, Show, DisableShown, Bad, OnAccount, List as Names, ListMarks}
use Rattle.cred_book.specs.declared.request.Request.TheVariants as request
use Rattle.cred_cli.specs.declared.refusal.Refusal.TheVariants as refusal

-- ---- what needs no hash

abbrev pub in_page : Option ℕ → Result ℕ Refusal
in_page None = Err (refusal.Text Range)
in_page (Some n) = if between 1 1000 n then Ok n else Err (refusal.Text Range)

-- a decimal number of 1 to 1000
abbrev pub count_field : List ℕ → Result ℕ Refusal
count_field text = in_page (number_of text)

-- `list FROM COUNT`
abbrev pub list_operation : List (List ℕ) → Result QuickOperation Refusal
list_operation (x ∷ n ∷ []) =
    name_field x >>= λ from. count_field n >>= λ most. Ok (Names from most)
list_operation _ = Err refusal.Line

-- `marks FROM COUNT`
abbrev pub marks_operation : List (List ℕ) → Result QuickOperation Refusal
marks_operation (x ∷ n ∷ []) =
    name_field x >>= λ from. count_field n >>= λ most. Ok (ListMarks from most)
marks_operation _ = Err refusal.Line

-- `disable NAME` and `disable NAME show`
abbrev pub disable_operation : List (List ℕ) → Result QuickOperation Refusal
disable_operation (x ∷ []) = name_field x >>= λ name. Ok (OnAccount (Disable name))
disable_operation (x ∷ word ∷ []) =
    if bytes_eq word (codes "show") then (name_field x >>= λ name. Ok (DisableShown name))
    else Err refusal.Line
disable_operation _ = Err refusal.Line

-- `rename NAME NEW`
abbrev pub rename_operation : List (List ℕ) → Result QuickOperation Refusal
rename_operation (x ∷ y ∷ []) =
    name_field x >>= λ name. name_field y >>= λ other. Ok (OnAccount (Rename name other))
rename_operation _ = Err refusal.Line

-- ---- what needs a hash

abbrev pub hashed_operation : SettingValue → List ℕ → List (List ℕ) → Result LineOperation Refusal
hashed_operation drawn word fields =
    if bytes_eq word (codes "login") then
    (name_and_password fields >>= λ f. Ok (Login f.0 f.1 drawn))
    else if bytes_eq word (codes "reset") then
    (name_password_setting (Some drawn) fields >>= λ f. Ok (Reset f.0 f.1 f.2))
    else (request_of (Some drawn) word fields >>= λ r. Ok (Whole r))

-- a line gives a setting, or has the drawn one
abbrev pub operation_of : SettingValue → List (List ℕ) → Result LineOperation Refusal
operation_of drawn [] = Err refusal.Line
operation_of drawn (word ∷ fields) =
    if bytes_eq word (codes "account") then
    (only_name fields >>= λ name. Ok (Quick (Account name)))
    else if bytes_eq word (codes "load") then
    (name_and_record fields >>= λ f. Ok (Quick (Load f.0 f.1)))
    else if bytes_eq word (codes "show") then
    (only_name fields >>= λ name. Ok (Quick (Show name)))
    else if bytes_eq word (codes "list") then (list_operation fields >>= λ list. Ok (Quick list))
    else if bytes_eq word (codes "marks") then (marks_operation fields >>= λ list. Ok (Quick list))
    else if bytes_eq word (codes "disable") then (disable_operation fields >>= λ it. Ok (Quick it))
    else if bytes_eq word (codes "delete") then
    (only_name fields >>= λ name. Ok (Quick (OnAccount (Delete name))))
    else if bytes_eq word (codes "rename") then (rename_operation fields >>= λ it. Ok (Quick it))
    else if bytes_eq word (codes "lock") then
    (only_name fields >>= λ name. Ok (Quick (OnAccount (Lock name))))
    else if bytes_eq word (codes "unlock") then
    (only_name fields >>= λ name. Ok (Quick (OnAccount (Unlock name))))
    else if bytes_eq word (codes "expire") then
    (only_name fields >>= λ name. Ok (Quick (OnAccount (Expire name))))
    else if bytes_eq word (codes "forgive") then
    (only_name fields >>= λ name. Ok (Forgive name))
    else hashed_operation drawn word fields

-- the request that is hashed for a line: a login is hashed as an upgrade, and a reset as the first
-- record
abbrev pub hashed_for : LineOperation → Option Request
hashed_for (Quick operation) = None
hashed_for (Whole r) = Some r
hashed_for (Login name pw setting) = Some (request.Upgrade name pw setting)
hashed_for (Reset name pw setting) = Some (request.Enrol name pw setting)
hashed_for (Forgive name) = None
hashed_for (Later name seconds) = None

-- The setting isn't of the version of old records. No line asks for the answer that its try is too
-- early.
abbrev pub IsSound : LineOperation → Type 0
IsSound (Later name seconds) = ⊥
IsSound operation = IfSome (hashed_for operation) (λ r. is_for_current r ≡ true)

-- the operation of a refused line
abbrev pub refused : Refusal → LineOperation
refused why = Quick (Bad why)

-- ---- within bounds

-- the setting or the record of a line needs more; a login counts as having neither
abbrev pub is_costly : CostBounds → LineOperation → Bool
is_costly most (Quick (Load name stored)) = exceeds most stored.setting.scheme
is_costly most (Quick _) = false
is_costly most (Whole r) = request_exceeds most r
is_costly most (Login name pw setting) = false
is_costly most (Reset name pw setting) = exceeds most setting.scheme
is_costly most (Forgive name) = false
is_costly most (Later name seconds) = false

-- such a line is refused
abbrev pub within : CostBounds → LineOperation → LineOperation
within most operation = if is_costly most operation then refused refusal.Costly else operation

abbrev pub is_reset : LineOperation → Bool
is_reset (Reset name pw setting) = true
is_reset _ = false

-- this task is hashed for the line, and no record is copied for a reset
abbrev pub IsJobOf : LineOperation → Task → Type 0
IsJobOf operation task = (hashed_for operation ≡ Some task.0)
    × (is_reset operation ≡ true → task.1 ≡ None)

-- ---- lines

-- a line: its number, its tag, and what it asks for
pub record Entry : Type 0 where
  pub number : ℕ
  pub tag : List ℕ
  pub operation : LineOperation

abbrev pub entry : ℕ → List ℕ → LineOperation → Entry
entry number tag operation = record { number = number; tag = tag; operation = operation }

-- a small letter or a digit
abbrev pub is_tag_byte : ℕ → Bool
is_tag_byte b = (nat_le 97 b && nat_le b 122) || (nat_le 48 b && nat_le b 57)

-- 1 to 20 small letters or digits
abbrev pub tag_of : List ℕ → Option (List ℕ)
tag_of text =
    if list_all is_tag_byte text then (if between 1 20 (length text) then Some text else None)
    else None

-- a tag, and what the line asks for under the tag
abbrev pub Tagged : Type 0
Tagged = List ℕ × LineOperation

-- what a line without a tag comes to, which is refused
abbrev pub untagged : Refusal → Tagged
untagged why = (codes "*", refused why)

abbrev pub or_bad : Result LineOperation Refusal → LineOperation
or_bad (Ok operation) = operation
or_bad (Err why) = refused why

abbrev pub tagged_by : SettingValue → Option (List ℕ) → List (List ℕ) → Tagged
tagged_by drawn None words = untagged refusal.Line
tagged_by drawn (Some tag) words = (tag, or_bad (operation_of drawn words))

abbrev pub tagged : SettingValue → List (List ℕ) → Tagged
tagged drawn [] = untagged refusal.Line
tagged drawn (first ∷ words) = tagged_by drawn (tag_of first) words

-- a line is cut at every space
unfoldable pub tagged_of : SettingValue → List ℕ → Tagged
tagged_of drawn line =
    if nat_lt longest_line (length line) then untagged refusal.Long
    else tagged drawn (pieces 32 line)

-- the line of this number, by a service with these bounds
abbrev pub entry_of : ℕ → CostBounds → SettingValue → List ℕ → Entry
entry_of number most drawn line =
    entry number (tagged_of drawn line).0 (within most (tagged_of drawn line).1)
