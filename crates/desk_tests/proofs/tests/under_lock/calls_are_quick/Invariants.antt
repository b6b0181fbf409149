use Rattle.std.proofs.Common.{false}
use Rattle.desk_tests.proofs.tests.under_lock.calls_are_quick.Given as goal

-- the list that was just opened, from this book
abbrev pub ghosts-timed-J-Naming : goal.ghosts-timed-J-Naming
ghosts-timed-J-Naming g a = record { list = a.opened.list; handouts = a.opened.handouts; opening = a.book.now; loads = false }

abbrev pub ghosts-timed-J-Ledger : goal.ghosts-timed-J-Ledger
ghosts-timed-J-Ledger g a = record { name = a.opened.ledger; parts = a.opened.sessions }
