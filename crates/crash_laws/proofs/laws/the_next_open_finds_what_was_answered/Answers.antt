use Rattle.crash_laws.proofs.Left.{found_after}
use Rattle.crash_laws.proofs.laws.the_next_open_finds_what_was_answered.Goals as goal

pub returns-clause-found : goal.returns-clause-found
returns-clause-found g c first last asked book again run held may = found_after g.S.Store first last asked book run held again may
