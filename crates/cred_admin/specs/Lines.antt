-- Passwords, a line each.
use Rattle.std.specs.Prelude.{◌≡◌, ◌⊎◌, ℕ, ◌<◌, ◌==◌, if◌then◌else◌, List, [], ◌∷◌, length, Option, Some, None, IfSome, ⊤, Bool, true, false}
use Rattle.cred_admin.specs.{declared.fault.Fault.Fault, declared.password.EmptyPassword.EmptyPassword}
use Rattle.cred_admin.specs.{declared.password.Passwords.Passwords, declared.password.Typed.Typed}
use Rattle.cred_admin.specs.declared.password.EmptyPassword.TheVariants.{Refused, Taken}
use Rattle.cred_admin.specs.declared.password.Passwords.TheVariants.{Present, New, PresentAndNew}
use Rattle.cred_cli.specs.Watched.{Reading}
use Rattle.cred_phc.specs.declared.password.TheConstants.{MAX_PASSWORD}
use Rattle.cred_admin.specs.declared.fault.Fault.TheVariants as fault

-- the bytes before the first line end (byte 10)
unfoldable pub line_before : List ℕ → List ℕ
line_before [] = []
line_before (c ∷ cs) = if c == 10 then [] else c ∷ line_before cs

-- the bytes after the first line end
unfoldable pub behind_line : List ℕ → List ℕ
behind_line [] = []
behind_line (c ∷ cs) = if c == 10 then cs else behind_line cs

-- the first byte was taken, or there is none
abbrev pub Takes : List ℕ → Option (List ℕ) → Option ℕ → Type 0
Takes bytes left (Some byte) = (rest : List ℕ) × (bytes ≡ byte ∷ rest) × (left ≡ Some rest)
Takes bytes left None = (bytes ≡ []) × (left ≡ Some [])

-- The first line was read, and the bytes behind it are left. No byte at all is no line, and a line
-- end alone is an empty line.
pub record ReadsLine (bytes : List ℕ) (left : Option (List ℕ)) (line : List ℕ) : Type 0 where
  pub there : 0 < length bytes
  pub line_is : line ≡ line_before bytes
  pub left_is : left ≡ Some (behind_line bytes)

-- the first two lines were read
pub record ReadsLines (bytes : List ℕ) (left : Option (List ℕ)) (first second : List ℕ)
    : Type 0 where
  pub there : 0 < length bytes
  pub first_is : first ≡ line_before bytes
  pub second_is : ReadsLine (behind_line bytes) left second

-- the reader's bytes begin with this line, or these two, and the reader has left the bytes behind
-- them
abbrev pub TakesLine : Reading → List ℕ → Type 0
TakesLine r pw = IfSome r.input (λ bytes. ReadsLine bytes r.left pw)

abbrev pub TakesLines : Reading → List ℕ → List ℕ → Type 0
TakesLines r first second = IfSome r.input (λ bytes. ReadsLines bytes r.left first second)

-- a new password is empty, and empty ones are refused
abbrev pub is_barred : EmptyPassword → List ℕ → Bool
is_barred Refused pw = length pw == 0
is_barred Taken pw = false

-- these passwords were read, a line each
abbrev pub Reads : Passwords → Reading → Typed → Type 0
Reads Present r t = TakesLine r t.first × (t.last ≡ t.first)
Reads (New empty) r t =
    TakesLine r t.first × (t.last ≡ t.first) × (is_barred empty t.last ≡ false)
Reads (PresentAndNew empty) r t =
    TakesLines r t.first t.last × (is_barred empty t.last ≡ false)

-- ---- lines that aren't the passwords that are wanted

-- there is none: the input ends before its first byte
abbrev pub HasNoLine : List ℕ → Type 0
HasNoLine bytes = bytes ≡ []

abbrev pub HasLongLine : List ℕ → Type 0
HasLongLine bytes = MAX_PASSWORD < length (line_before bytes)

abbrev pub HasEmptyLine : List ℕ → Type 0
HasEmptyLine bytes = (0 < length bytes) × (line_before bytes ≡ [])

abbrev pub LacksNew : Passwords → List ℕ → Type 0
LacksNew (PresentAndNew empty) bytes = (0 < length bytes) × HasNoLine (behind_line bytes)
LacksNew _ bytes = ⊥

abbrev pub HasLong : Passwords → List ℕ → Type 0
HasLong (PresentAndNew empty) bytes = HasLongLine bytes ⊎ HasLongLine (behind_line bytes)
HasLong _ bytes = HasLongLine bytes

-- the new password is an empty line, and empty ones are refused
abbrev pub HasEmpty : Passwords → Option (List ℕ) → Type 0
HasEmpty Present known = ⊥
HasEmpty (New empty) known = (empty ≡ Refused) × IfSome known HasEmptyLine
HasEmpty (PresentAndNew empty) known =
    (empty ≡ Refused) × IfSome known (λ bytes. HasEmptyLine (behind_line bytes))

-- why these passwords aren't read
abbrev pub IsMisread : Passwords → Reading → Fault → Type 0
IsMisread pws r fault.Read = r.failed ≡ true
IsMisread pws r fault.Memory = ⊤
IsMisread pws r fault.NoPassword = IfSome r.input HasNoLine
IsMisread pws r fault.NoNewPassword = IfSome r.input (LacksNew pws)
IsMisread pws r fault.Password = IfSome r.input (HasLong pws)
IsMisread pws r fault.Empty = HasEmpty pws r.input
IsMisread pws r _ = ⊥

-- why a line isn't read
abbrev pub MissesLine : Reading → Fault → Type 0
MissesLine r e = ((e ≡ fault.Read) × (r.failed ≡ true)) ⊎ (e ≡ fault.Memory)
    ⊎ ((e ≡ fault.NoPassword) × IfSome r.input HasNoLine)
    ⊎ ((e ≡ fault.Password) × IfSome r.input HasLongLine)

-- ---- the reader

-- after a byte a reader is at its end exactly if it was there before
abbrev pub IsOpen : Bool → Bool → Option ℕ → Type 0
IsOpen old new (Some byte) = new ≡ old
IsOpen old new None = ⊤

-- a call on the reader fails if the fault says so, and otherwise none fails
abbrev pub ReadFails : Bool → Bool → Fault → Type 0
ReadFails before now fault.Read = now ≡ true
ReadFails before now _ = now ≡ before
