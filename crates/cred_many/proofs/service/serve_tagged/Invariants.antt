use Rattle.cred_many.proofs.service.serve_tagged.Given as goal

-- the ledger of the budget that begins here
abbrev pub ghosts-hash_in_threads-L-Limit : goal.ghosts-hash_in_threads-L-Limit
ghosts-hash_in_threads-L-Limit g a = record { total = a.config.now.memory }

abbrev pub ghosts-hash_in_threads-L-Ledger : goal.ghosts-hash_in_threads-L-Ledger
ghosts-hash_in_threads-L-Ledger g a = record { name = a.blank.name; parts = a.blank.parts }
