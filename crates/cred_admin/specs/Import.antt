-- The result of an import's text.
use Rattle.std.specs.List.{ends_with, list_any, starts_with}
use Rattle.std.specs.Prelude.{◌≡◌, ℕ, ◌+◌, ◌-◌, ◌<◌, Bool, true, false, ◌||◌, ◌==◌, if◌then◌else◌, List, [], ◌∷◌, ◌++◌, length, take, drop, codes, Option, None, Some, IfSome, Result, Ok, Err, nat_eq, ⊤}
use Rattle.cred_phc.specs.{Errors.error_number as fault_number, Errors.error_word as fault_word, Pieces.pieces, Reading.read_record, Values.RecordValue}
use Rattle.cred_phc.specs.declared.error.PhcError.{PhcError}
use Rattle.cred_book.specs.{Accounts.Accounts, Accounts.register_capacity, Errors.error_number as refusal_number, Errors.error_word as refusal_word}
use Rattle.cred_book.specs.{Names.made_name, declared.error.BookError.BookError}
use Rattle.cred_cli.specs.{Costs.exceeds, declared.costs.CostBounds.CostBounds}
use Rattle.cred_file.specs.{Cells.AllMarks, Cells.mark_at, Cells.mark_of, Cells.marked, Cells.rest_of, Cells.unmarked, declared.marks.Mark.Mark}
use Rattle.cred_admin.specs.{declared.entry.LineAccount.LineAccount, declared.entry.LineFault.LineFault, declared.entry.Said.Said, declared.import.Rules.Rules}
use Rattle.cred_admin.specs.declared.entry.LineFault.TheVariants.{Line, Text, Book, Costly, Locked as IsLocked}
use Rattle.cred_admin.specs.declared.entry.Said.TheVariants.{Nothing, Account}
use Rattle.cred_admin.specs.{declared.import.BadLine.BadLine, declared.import.Existing.Existing}
use Rattle.cred_admin.specs.declared.import.Existing.TheVariants.{Refused, Kept, Updated}
use Rattle.cred_admin.specs.{declared.import.Gathered.Gathered, declared.import.ImportFault.ImportFault, declared.import.LockedRecords.LockedRecords}
use Rattle.std.specs.FinMap as map
use Rattle.cred_book.specs.declared.error.BookError.TheVariants as error
use Rattle.cred_admin.specs.declared.import.ImportFault.TheVariants as fault
use Rattle.cred_admin.specs.declared.import.LockedRecords.TheVariants as locked

abbrev pub line_number : LineFault → ℕ
line_number Line = 11
line_number (Text e) = fault_number e
line_number (Book e) = refusal_number e
line_number IsLocked = 17
line_number Costly = 18

abbrev pub line_word : LineFault → List ℕ
line_word Line = codes "line"
line_word (Text e) = fault_word e
line_word (Book e) = refusal_word e
line_word IsLocked = codes "locked"
line_word Costly = codes "costly"

-- ---- one line

-- without the carriage return (byte 13) that a Windows file has before its line end
abbrev pub without_return : List ℕ → List ℕ
without_return line =
    if ends_with nat_eq line (13 ∷ []) then take (length line - 1) line else line

-- the text after a scheme in braces (bytes 123 and 125), as Dovecot writes one
abbrev pub behind_braces : List (List ℕ) → List ℕ → List ℕ
behind_braces (scheme ∷ text ∷ []) whole =
    if starts_with nat_eq scheme (123 ∷ []) then text else whole
behind_braces _ whole = whole

-- the text after Django's word for the scheme
abbrev pub behind_word : List ℕ → List ℕ
behind_word text = if starts_with nat_eq text (codes "argon2") then drop 6 text else text

-- the record in a line's second field
abbrev pub record_part : List ℕ → List ℕ
record_part text = behind_word (behind_braces (pieces 125 text) text)

abbrev pub stored_as : Result RecordValue PhcError → Result (Option RecordValue) LineFault
stored_as (Ok v) = Ok (Some v)
stored_as (Err e) = Err (Text e)

-- an empty text is no record
abbrev pub stored_at : List ℕ → Result (Option RecordValue) LineFault
stored_at [] = Ok None
stored_at (c ∷ cs) = stored_as (read_record (record_part (c ∷ cs)))

abbrev pub entry : List ℕ → Option RecordValue → Mark → LineAccount
entry name stored mark = record { name = name; stored = stored; mark = mark }

abbrev pub said_with : List ℕ → Mark → Result (Option RecordValue) LineFault
    → Result Said LineFault
said_with name m (Ok stored) = Ok (Account (entry name stored m))
said_with name m (Err e) = Err e

-- * (byte 42) replaces a record
abbrev pub is_star : List ℕ → Bool
is_star text = starts_with nat_eq text (42 ∷ [])

-- the record stands behind ! (byte 33), as `passwd -l` writes it, behind * or behind ~ (byte 126)
abbrev pub is_locked : List ℕ → Bool
is_locked text =
    starts_with nat_eq text (33 ∷ []) || (is_star text || starts_with nat_eq text (126 ∷ []))

-- An item of Dovecot's extra fields that bars its user despite a right password: everywhere
-- (nologin, noauthenticate), or outside some networks (allow_nets, allow_real_nets). Such an item
-- counts with any value, and without one.
abbrev pub bars : List ℕ → Bool
bars item = starts_with nat_eq item (codes "nologin")
    || (starts_with nat_eq item (codes "noauthenticate")
    || starts_with nat_eq item (codes "allow_"))

-- items have a space (byte 32) between them
abbrev pub has_bar : List ℕ → Bool
has_bar field = list_any bars (pieces 32 field)

-- the fields behind the record
abbrev pub is_barred : List (List ℕ) → Bool
is_barred others = list_any has_bar others

-- A line with a locked record is at fault, or its account gets no record, or the account gets the
-- marks and the record of the line, as an export writes them. In the last case a line whose user a
-- field bars is at fault.
abbrev pub said_locked : LockedRecords → List ℕ → Bool → List ℕ → Result Said LineFault
said_locked locked.Refused name barred text = Err IsLocked
said_locked locked.Disabled name barred text = Ok (Account (entry name None unmarked))
said_locked locked.Kept name barred text =
    if barred || is_star text then Err IsLocked
    else said_with name (mark_of text) (stored_at (rest_of text))

-- the name is judged before the record
abbrev pub said_as : LockedRecords → Result (List ℕ) BookError → Bool → List ℕ
    → Result Said LineFault
said_as how (Ok name) barred text =
    if barred || is_locked text then said_locked how name barred text
    else said_with name unmarked (stored_at text)
said_as how (Err e) barred text = Err (Book e)

-- the first two fields count, and those behind them if they bar the user
abbrev pub said_in : LockedRecords → List (List ℕ) → Result Said LineFault
said_in how (name ∷ text ∷ others) = said_as how (made_name name) (is_barred others) text
said_in how _ = Err Line

-- the line is empty, or begins with # (byte 35)
abbrev pub is_remark : List ℕ → Bool
is_remark line = length line == 0 || starts_with nat_eq line (35 ∷ [])

-- a line is cut at every colon
unfoldable pub said_of : LockedRecords → List ℕ → Result Said LineFault
said_of how line =
    if is_remark (without_return line) then Ok Nothing
    else said_in how (pieces 58 (without_return line))

-- ---- all of them

-- between the line ends (byte 10)
abbrev pub import_lines : List ℕ → List (List ℕ)
import_lines text = pieces 10 text

-- The result of the lines so far: the new accounts, the accounts in the book that get another
-- record, the marks of both, the number of lines whose account exists and stays, and the bad lines.
pub record Tally : Type 0 where
  pub accounts : Accounts
  pub changed : Accounts
  pub marks : AllMarks
  pub kept : ℕ
  pub bad : List BadLine

abbrev pub nothing_yet : Tally
nothing_yet = record {
  accounts = map.empty;
  changed = map.empty;
  marks = mark_at map.empty;
  kept = 0;
  bad = [];
}

abbrev pub with_bad : Tally → ℕ → LineFault → Tally
with_bad t n why = record t { bad = t.bad ++ record { number = n; why = why } ∷ [] }

abbrev pub with_kept : Tally → Tally
with_kept t = record t { kept = t.kept + 1 }

abbrev pub with_mark : Tally → LineAccount → Tally
with_mark t e = record t { marks = marked t.marks e.name e.mark }

abbrev pub with_account : Tally → LineAccount → Tally
with_account t e =
    with_mark (record t { accounts = map.insert t.accounts e.name e.stored }) e

abbrev pub with_change : Tally → LineAccount → Tally
with_change t e = with_mark (record t { changed = map.insert t.changed e.name e.stored }) e

-- a line whose account is in the book; it may be changed once
abbrev pub with_existing : Existing → Tally → ℕ → LineAccount → Tally
with_existing Refused t n e = with_bad t n (Book error.Exists)
with_existing Kept t n e = with_kept t
with_existing Updated t n e =
    if map.contains_key t.changed e.name then with_bad t n (Book error.Exists) else with_change t e

-- the account of a line is new in the book and among the lines, or not
abbrev pub with_entry : Existing → Accounts → Tally → ℕ → LineAccount → Tally
with_entry how book t n e =
    if map.contains_key book e.name then with_existing how t n e
    else if map.contains_key t.accounts e.name then with_bad t n (Book error.Exists)
    else with_account t e

-- a record asks for more memory or work than is allowed
abbrev pub is_costly : CostBounds → Option RecordValue → Bool
is_costly most (Some stored) = exceeds most stored.setting.scheme
is_costly most None = false

abbrev pub with_said : Rules → Accounts → Tally → ℕ → Said → Tally
with_said rules book t n Nothing = t
with_said rules book t n (Account e) =
    if is_costly rules.most e.stored then with_bad t n Costly
    else with_entry rules.existing book t n e

abbrev pub with_line : Rules → Accounts → Tally → ℕ → Result Said LineFault → Tally
with_line rules book t n (Ok said) = with_said rules book t n said
with_line rules book t n (Err why) = with_bad t n why

-- the first of the lines has this number
unfoldable pub tally_from : Rules → Accounts → Tally → ℕ → List (List ℕ) → Tally
tally_from rules book t n [] = t
tally_from rules book t n (line ∷ lines) =
    tally_from rules book (with_line rules book t n (said_of rules.locked line)) (n + 1) lines

-- the result of a text's lines for a book
abbrev pub tally : Rules → Accounts → List ℕ → Tally
tally rules book text = tally_from rules book nothing_yet 1 (import_lines text)

abbrev pub tally_of : Gathered → Tally
tally_of g = record {
  accounts = g.accounts;
  changed = g.changed;
  marks = mark_at g.marks;
  kept = g.kept;
  bad = g.bad.items;
}

-- a successful call has the first result; otherwise memory ran out, or there are too many accounts
-- for any book
abbrev pub Comes : Tally → Tally → Result (Unit {0}) ImportFault → Type 0
Comes next now (Ok _) = now ≡ next
Comes next now (Err fault.Memory) = ⊤
Comes next now (Err fault.Full) = register_capacity < map.len next.accounts
Comes next now (Err _) = ⊥

-- ---- what it comes to, in the words of who wrote the lines

-- the account of a good line
abbrev pub entry_with : Rules → Result Said LineFault → Option LineAccount
entry_with rules (Ok Nothing) = None
entry_with rules (Ok (Account e)) = if is_costly rules.most e.stored then None else Some e
entry_with rules (Err why) = None

abbrev pub entry_of : Rules → List ℕ → Option LineAccount
entry_of rules line = entry_with rules (said_of rules.locked line)

-- no good line has this name
abbrev pub HasNone : Rules → List ℕ → List (List ℕ) → Type 0
HasNone rules name [] = ⊤
HasNone rules name (line ∷ lines) =
    ((e : LineAccount) → entry_of rules line ≡ Some e → name ≡ e.name → ⊥)
    × HasNone rules name lines

-- a good line of a text, the first one of its name
pub record IsFirst (rules : Rules) (text : List ℕ) (e : LineAccount) : Type 0 where
  pub front : List (List ℕ)
  pub line : List ℕ
  pub rest : List (List ℕ)
  pub cut : import_lines text ≡ front ++ line ∷ rest
  pub says : entry_of rules line ≡ Some e
  pub first : HasNone rules e.name front

-- A call on the reader failed; or none failed, and memory ran out; or there are too many accounts
-- for any book. The two flags tell whether a call had failed before, and has failed now.
abbrev pub GatherFails : Rules → Accounts → Option (List ℕ) → Bool → Bool → ImportFault → Type 0
GatherFails rules book input before now fault.Read = now ≡ true
GatherFails rules book input before now fault.Memory = now ≡ before
GatherFails rules book input before now fault.Full = (text : List ℕ)
    × IfSome input (λ bytes. text ≡ bytes)
    × (register_capacity < map.len (tally rules book text).accounts)
GatherFails rules book input before now (fault.Lines bad) = ⊥
