use Rattle.crash_laws.proofs.laws.a_stop_leaves_what_is_within.Goals as goal

pub returns-clause-found : goal.returns-clause-found
returns-clause-found g c stopped again may = record { clean = may.clean; db = may.db; left = may.left; holds = may.holds }

pub returns-clause-refused : goal.returns-clause-refused
returns-clause-refused g c stopped why may = record { clean = may.clean; db = may.db; left = may.left; for_want = may.for_want }
