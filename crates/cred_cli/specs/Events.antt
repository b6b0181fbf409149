-- What a line of a script asks for.
use Rattle.std.specs.{Option.ok_or, Str.bytes_eq}
use Rattle.std.specs.Prelude.{◌≡◌, ℕ, ◌+◌, ◌≤◌, List, [], ◌∷◌, length, nat_lt, if◌then◌else◌, Option, Some, None, Result, Ok, Err, Bool, true, false, codes}
use Rattle.cred_phc.specs.{Base64.bytes_of, Number.number_of, Pieces.pieces, Ranges.between, Reading.◌>>=◌, Reading.read_record, Reading.read_setting}
use Rattle.cred_phc.specs.{Values.RecordValue, Values.SettingValue, declared.error.PhcError.PhcError}
use Rattle.cred_book.specs.{Names.made_name, Works.is_for_current, declared.error.BookError.BookError, declared.request.Request.Request}
use Rattle.cred_book.specs.declared.request.Request.TheVariants.{Enrol, Verify, Change, Upgrade, Remove}
use Rattle.cred_cli.specs.{declared.event.Event.Event, declared.refusal.Refusal.Refusal}
use Rattle.cred_cli.specs.declared.event.Event.TheVariants.{Account, Load, Show, Begin, Commit, Bad}
use Rattle.cred_cli.specs.declared.refusal.Refusal.TheVariants.{Long, Line, Key, Password, Text, Book}

-- ---- the fields; the first from the left that stands for no value refuses the line

abbrev pub in_range : Option ℕ → Option ℕ
in_range None = None
in_range (Some n) = if between 1 64 n then Some n else None

-- a decimal number of 1 to 64
unfoldable pub key_of : List ℕ → Option ℕ
key_of text = in_range (number_of text)

-- `-` is the empty password; any other has 1 to 256 bytes in base64
unfoldable pub password_of : List ℕ → Option (List ℕ)
password_of text = if bytes_eq text (codes "-") then Some [] else bytes_of 1 256 text

abbrev pub by_book : {V : Type 0} → Result V BookError → Result V Refusal
by_book (Ok value) = Ok value
by_book (Err e) = Err (Book e)

abbrev pub by_text : {V : Type 0} → Result V PhcError → Result V Refusal
by_text (Ok value) = Ok value
by_text (Err e) = Err (Text e)

abbrev pub key_field : List ℕ → Result ℕ Refusal
key_field text = ok_or (key_of text) Key

abbrev pub name_field : List ℕ → Result (List ℕ) Refusal
name_field text = by_book (made_name text)

abbrev pub password_field : List ℕ → Result (List ℕ) Refusal
password_field text = ok_or (password_of text) Password

abbrev pub setting_field : List ℕ → Result SettingValue Refusal
setting_field text = by_text (read_setting text)

abbrev pub record_field : List ℕ → Result RecordValue Refusal
record_field text = by_text (read_record text)

-- ---- the fields behind a word; with another number of them a line asks for nothing

-- `NAME`
abbrev pub only_name : List (List ℕ) → Result (List ℕ) Refusal
only_name (x ∷ []) = name_field x
only_name _ = Err Line

-- `NAME` and one field more
abbrev pub name_and : {V : Type 0} → (List ℕ → Result V Refusal) → List (List ℕ)
    → Result (List ℕ × V) Refusal
name_and read (x ∷ text ∷ []) =
    name_field x >>= λ name. read text >>= λ value. Ok (name, value)
name_and read _ = Err Line

-- `NAME RECORD`
abbrev pub name_and_record : List (List ℕ) → Result (List ℕ × RecordValue) Refusal
name_and_record fields = name_and record_field fields

-- `NAME PW`
abbrev pub name_and_password : List (List ℕ) → Result (List ℕ × List ℕ) Refusal
name_and_password fields = name_and password_field fields

-- the setting of a line, or the drawn one; more fields refuse the line first
abbrev pub own_setting : List (List ℕ) → Option SettingValue
    → Result (Result SettingValue Refusal) Refusal
own_setting [] (Some drawn) = Ok (Ok drawn)
own_setting (text ∷ []) drawn = Ok (setting_field text)
own_setting _ drawn = Err Line

-- `NAME PW SETTING`, or without the setting if one is drawn
abbrev pub name_password_setting : Option SettingValue → List (List ℕ)
    → Result (List ℕ × List ℕ × SettingValue) Refusal
name_password_setting drawn (x ∷ p ∷ own) =
    own_setting own drawn >>= λ setting. name_field x >>= λ name. password_field p >>= λ pw.
    setting >>= λ s. Ok (name, pw, s)
name_password_setting drawn _ = Err Line

-- `NAME PW NEW SETTING`, or without the setting if one is drawn
abbrev pub change_request : Option SettingValue → List (List ℕ) → Result Request Refusal
change_request drawn (x ∷ p ∷ q ∷ own) =
    own_setting own drawn >>= λ setting. name_field x >>= λ name. password_field p >>= λ pw.
    password_field q >>= λ new. setting >>= λ s. Ok (Change name pw new s)
change_request drawn _ = Err Line

-- an operation on an account's record, by its word and the fields behind it
abbrev pub request_of : Option SettingValue → List ℕ → List (List ℕ) → Result Request Refusal
request_of drawn word fields =
    if bytes_eq word (codes "verify") then
    (name_and_password fields >>= λ f. Ok (Verify f.0 f.1))
    else if bytes_eq word (codes "remove") then
    (name_and_password fields >>= λ f. Ok (Remove f.0 f.1))
    else if bytes_eq word (codes "enrol") then
    (name_password_setting drawn fields >>= λ f. Ok (Enrol f.0 f.1 f.2))
    else if bytes_eq word (codes "upgrade") then
    (name_password_setting drawn fields >>= λ f. Ok (Upgrade f.0 f.1 f.2))
    else if bytes_eq word (codes "change") then change_request drawn fields
    else Err Line

-- ---- the lines, by their first words and the fields behind them

-- `commit K`
abbrev pub commit_event : List (List ℕ) → Result Event Refusal
commit_event (k ∷ []) = key_field k >>= λ key. Ok (Commit key)
commit_event _ = Err Line

-- the line asks for nothing: no line has this word with this number of fields
abbrev pub is_line : Refusal → Bool
is_line Line = true
is_line _ = false

-- such a line is refused before its number is read; for any other line the number is judged first
abbrev pub begun : List ℕ → Result Request Refusal → Result Event Refusal
begun k (Ok request) = key_field k >>= λ key. Ok (Begin key request)
begun k (Err why) = if is_line why then Err why else (key_field k >>= λ key. Err why)

-- `begin K verify NAME PW`, `begin K remove NAME PW`, `begin K enrol NAME PW SETTING`,
-- `begin K upgrade NAME PW SETTING` and `begin K change NAME PW PW SETTING`
abbrev pub begin_event : List (List ℕ) → Result Event Refusal
begin_event (k ∷ word ∷ fields) = begun k (request_of None word fields)
begin_event _ = Err Line

abbrev pub event_of_pieces : List (List ℕ) → Result Event Refusal
event_of_pieces [] = Err Line
event_of_pieces (word ∷ fields) =
    if bytes_eq word (codes "account") then (only_name fields >>= λ name. Ok (Account name))
    else if bytes_eq word (codes "load") then
    (name_and_record fields >>= λ f. Ok (Load f.0 f.1))
    else if bytes_eq word (codes "show") then (only_name fields >>= λ name. Ok (Show name))
    else if bytes_eq word (codes "begin") then begin_event fields
    else if bytes_eq word (codes "commit") then commit_event fields
    else Err Line

-- ---- any line

abbrev pub or_bad : Result Event Refusal → Event
or_bad (Ok event) = event
or_bad (Err why) = Bad why

-- the longest line in bytes, its end not counted
abbrev pub longest_line : ℕ
longest_line = 1024

-- the maximum number of bytes that are kept of a line: a longer line is refused, whatever follows
abbrev pub most_kept : ℕ
most_kept = longest_line + 1

-- the maximum number of pieces that are read: one more than a line may have
abbrev pub most_pieces : ℕ
most_pieces = 8

-- a line is cut at every space
unfoldable pub event_of : List ℕ → Event
event_of line =
    if nat_lt longest_line (length line) then Bad Long
    else or_bad (event_of_pieces (pieces 32 line))

-- a line's number is one of 1 to 64, and its setting isn't of the version of old records
abbrev pub IsSound : Event → Type 0
IsSound (Begin key request) = (1 ≤ key) × (key ≤ 64) × (is_for_current request ≡ true)
IsSound (Commit key) = (1 ≤ key) × (key ≤ 64)
IsSound _ = Unit {0}
