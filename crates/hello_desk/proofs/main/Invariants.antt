use Rattle.std.proofs.Common.{false}
use Rattle.hello_desk.proofs.main.Given as goal

-- the list that was just opened, from this book
abbrev pub ghosts-meet-J-Naming : goal.ghosts-meet-J-Naming
ghosts-meet-J-Naming g a = record { list = a.opened.list; handouts = a.opened.handouts; opening = a.book.now; loads = false }

abbrev pub ghosts-meet-J-Ledger : goal.ghosts-meet-J-Ledger
ghosts-meet-J-Ledger g a = record { name = a.opened.ledger; parts = a.opened.sessions }
