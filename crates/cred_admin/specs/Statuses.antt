-- The exit statuses, and when each is answered.
use Rattle.std.specs.Prelude.{ℕ, ◌-◌, ◌==◌, if◌then◌else◌, List, codes, length, Option, Some, None, slice_get}
use Rattle.cred_book.specs.{declared.error.BookError.BookError, declared.request.Reply.Reply}
use Rattle.cred_admin.specs.{declared.fault.Fault.Fault, declared.status.Hint.Hint, declared.status.Hint.TheVariants.CarriageReturn}
use Rattle.cred_admin.specs.declared.status.Status.{Status}
use Rattle.cred_admin.specs.declared.verdict.Verdict.{Verdict}
use Rattle.cred_admin.specs.declared.verdict.Verdict.TheVariants.{Told, Expired, Same}
use Rattle.cred_cli.specs.Texts.{reply_line}
use Rattle.cred_admin.specs.declared.status.Status.TheVariants.{Done, Usage, Io, Memory, No, Database, Data}
use Rattle.cred_book.specs.declared.error.BookError.TheVariants as error
use Rattle.cred_book.specs.declared.request.Reply.TheVariants as reply
use Rattle.cred_admin.specs.declared.fault.Fault.TheVariants as fault

abbrev pub number_of : Status → ℕ
number_of Done = 0
number_of Usage = 1
number_of Io = 2
number_of Memory = 3
number_of (No hint) = 4
number_of Database = 5
number_of Data = 6

abbrev pub status_of_fault : Fault → Status
status_of_fault fault.Read = Io
status_of_fault fault.Write = Io
status_of_fault fault.Memory = Memory
status_of_fault fault.Password = Data
status_of_fault fault.NoPassword = Data
status_of_fault fault.NoNewPassword = Data
status_of_fault fault.Empty = Data
status_of_fault fault.Full = Data

-- the fault of a command that a book refuses
abbrev pub fault_of_book : BookError → Fault
fault_of_book error.Full = fault.Full
fault_of_book _ = fault.Memory

-- ---- why a password may be wrong

abbrev pub hint_at : Option ℕ → Option Hint
hint_at None = None
hint_at (Some byte) = if byte == 13 then Some CarriageReturn else None

-- the last byte is a carriage return (13)
abbrev pub hint_of : List ℕ → Option Hint
hint_of pw = hint_at (slice_get pw (length pw - 1))

-- the operation is done, or isn't; a wrong password has its hint
abbrev pub status_of : Reply → Option Hint → Status
status_of reply.Enrolled hint = Done
status_of reply.Yes hint = Done
status_of reply.Replaced hint = Done
status_of reply.Upgraded hint = Done
status_of reply.Kept hint = Done
status_of reply.Removed hint = Done
status_of reply.No hint = No hint
status_of reply.Wrong hint = No hint
status_of reply.Exists hint = No None
status_of reply.Absent hint = No None
status_of (reply.Changed now) hint = No None
status_of reply.NoAccount hint = No None

-- ---- what is answered to a try

abbrev pub verdict_line : Verdict → List ℕ
verdict_line (Told r) = reply_line r
verdict_line Expired = codes "expired\n"
verdict_line Same = codes "same\n"

abbrev pub verdict_status : Verdict → Option Hint → Status
verdict_status (Told r) hint = status_of r hint
verdict_status Expired hint = No None
verdict_status Same hint = No None
