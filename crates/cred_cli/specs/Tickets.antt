-- The relation of the open tickets to the history.
use Rattle.std.specs.Prelude.{◌≡◌, ℕ, ◌≤◌, Option, Some, None, List, length}
use Rattle.std.specs.FinMap as map
use Rattle.cred_book.specs.{Accounts.Accounts, Works.Task, Works.name_of}
use Rattle.cred_cli.specs.{declared.event.Event.Event, History.Opened, History.book_at, History.open_at, Steps.slot}

-- a ticket is the begin's request, with the record of its name in the book at the begin's place
abbrev pub IsTicketOf : ℕ → Accounts → List Event → Option Opened → Option Task → Type 0
IsTicketOf capacity book events None None = Unit {0}
IsTicketOf capacity book events (Some opened) (Some task) =
    (task.0 ≡ opened.request)
    × (map.get (book_at capacity book events opened.place) (name_of opened.request)
    ≡ Some task.1)
IsTicketOf capacity book events _ _ = ⊥

-- each number that is open at place i has its ticket
pub record HoldTickets (capacity : ℕ) (book : Accounts) (events : List Event) (i : ℕ)
    (slots : List (Option Task)) : Type 0 where
  pub size : length slots ≡ 64
  pub each : (key : ℕ) → 1 ≤ key → key ≤ 64
      → IsTicketOf capacity book events (open_at capacity book events i key) (slot slots key)
