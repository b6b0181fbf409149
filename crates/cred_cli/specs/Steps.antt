-- One event on the present book, with the open tickets.
use Rattle.std.specs.Prelude.{◌≡◌, ℕ, ◌-◌, if◌then◌else◌, true, Bool, Option, Some, None, List, nat_lt, slice_index_or, slice_set}
use Rattle.cred_phc.specs.Values.{RecordValue}
use Rattle.cred_book.specs.{Accounts.Accounts, Commits.commit_outcome, Works.Task, Works.name_of}
use Rattle.cred_book.specs.{declared.request.Reply.Reply, declared.request.Request.Request}
use Rattle.cred_book.specs.declared.error.BookError.TheVariants.{Exists, Full, NoAccount}
use Rattle.cred_cli.specs.History.{Answer, Done, Begun, Changed, Replied, Refused, show_answer}
use Rattle.cred_cli.specs.{Outcome.FrontWritten, declared.event.Event.Event, declared.fault.ScriptFault.ScriptFault}
use Rattle.cred_cli.specs.declared.event.Event.TheVariants.{Account, Load, Show, Begin, Commit, Bad}
use Rattle.cred_cli.specs.declared.fault.ScriptFault.TheVariants.{Write}
use Rattle.cred_cli.specs.declared.refusal.Refusal.TheVariants.{Book, Busy, Idle}
use Rattle.std.specs.FinMap as map
use Rattle.cred_book.specs.declared.request.Reply.TheVariants as reply

-- the answer, the book after, and the open tickets after
pub record Step : Type 0 where
  pub answer : Answer
  pub book : Accounts
  pub slots : List (Option Task)

abbrev pub stay : Answer → Accounts → List (Option Task) → Step
stay answer book slots = record { answer = answer; book = book; slots = slots }

abbrev pub slot : List (Option Task) → ℕ → Option Task
slot slots key = slice_index_or slots (key - 1) None

abbrev pub begin_step_at : Accounts → List (Option Task) → ℕ → Request → Option Task
    → Option (Option RecordValue) → Step
begin_step_at book slots key request (Some task) entry = stay (Refused Busy) book slots
begin_step_at book slots key request None None = stay (Refused (Book NoAccount)) book slots
begin_step_at book slots key request None (Some copy) =
    record { answer = Begun; book = book; slots = slice_set slots (key - 1) (Some (request, copy)) }

unfoldable pub begin_step : Accounts → List (Option Task) → ℕ → Request → Step
begin_step book slots key request =
    begin_step_at book slots key request (slot slots key) (map.get book (name_of request))

abbrev pub reply_answer : Reply → Answer
reply_answer (reply.Changed now) = Changed
reply_answer other = Replied other

abbrev pub commit_step_at : Accounts → List (Option Task) → ℕ → Option Task → Step
commit_step_at book slots key None = stay (Refused Idle) book slots
commit_step_at book slots key (Some task) = record {
  answer = reply_answer (commit_outcome book task).0;
  book = (commit_outcome book task).1;
  slots = slice_set slots (key - 1) None;
}

unfoldable pub commit_step : Accounts → List (Option Task) → ℕ → Step
commit_step book slots key = commit_step_at book slots key (slot slots key)

abbrev pub step : ℕ → Accounts → List (Option Task) → Event → Step
step capacity book slots (Account name) =
    if map.contains_key book name then stay (Refused (Book Exists)) book slots
    else if nat_lt (map.len book) capacity then stay Done (map.insert book name None) slots
    else stay (Refused (Book Full)) book slots
step capacity book slots (Load name stored) =
    if map.contains_key book name then stay Done (map.insert book name (Some stored)) slots
    else stay (Refused (Book NoAccount)) book slots
step capacity book slots (Show name) = stay (show_answer (map.get book name)) book slots
step capacity book slots (Begin key request) = begin_step book slots key request
step capacity book slots (Commit key) = commit_step book slots key
step capacity book slots (Bad why) = stay (Refused why) book slots

-- how writing some bytes ends if it doesn't end well
abbrev pub WriteFails : Option (List ℕ) → Option (List ℕ) → List ℕ → Bool → ScriptFault → Type 0
WriteFails before now bytes failed e = (e ≡ Write) × (failed ≡ true) × FrontWritten before now bytes
