use Rattle.std.proofs.Common.{true}
use Rattle.desk_tests.proofs.tests.scene.show.Given as goal

-- the list that was just opened, from this book
abbrev pub ghosts-played-J-Naming : goal.ghosts-played-J-Naming
ghosts-played-J-Naming g a = record { list = a.opened.list; handouts = a.opened.handouts; opening = a.book.now; loads = true }

abbrev pub ghosts-played-J-Ledger : goal.ghosts-played-J-Ledger
ghosts-played-J-Ledger g a = record { name = a.opened.ledger; parts = a.opened.sessions }
