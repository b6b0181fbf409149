use Rattle.desk_tests.proofs.tests.log.numbers_are_added.Given as goal

-- the log that was just made, of whose entries nothing has to hold
abbrev pub ghosts-grow_new : goal.ghosts-grow_new
ghosts-grow_new g a = record { book = a.new; holds = λ _. Unit {0} }
