use Rattle.std.proofs.Common.{false}
use Rattle.desk_tests.proofs.tests.under_lock.readers_wait_for_no_lock.Given as goal

-- the list that was just opened, from this book
abbrev pub ghosts-read_under_lock-J-Naming : goal.ghosts-read_under_lock-J-Naming
ghosts-read_under_lock-J-Naming g a = record { list = a.opened.list; handouts = a.opened.handouts; opening = a.book.now; loads = false }

abbrev pub ghosts-read_under_lock-J-Ledger : goal.ghosts-read_under_lock-J-Ledger
ghosts-read_under_lock-J-Ledger g a = record { name = a.opened.ledger; parts = a.opened.sessions }
