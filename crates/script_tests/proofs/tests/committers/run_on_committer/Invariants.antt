use Rattle.std.proofs.Common.{true}
use Rattle.script_tests.proofs.tests.committers.run_on_committer.Given as goal

-- the list that was just opened, from this book
abbrev pub ghosts-run_published-J-Naming : goal.ghosts-run_published-J-Naming
ghosts-run_published-J-Naming g a = record { list = a.opened.list; handouts = a.opened.handouts; opening = a.book.now; loads = true }

abbrev pub ghosts-run_published-J-Ledger : goal.ghosts-run_published-J-Ledger
ghosts-run_published-J-Ledger g a = record { name = a.opened.ledger; parts = a.opened.sessions }
