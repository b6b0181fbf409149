use Rattle.std.proofs.Common.{◌+◌, ◌*◌, length}
use Rattle.cred_pool.proofs.part.+runs.Given as goal

abbrev pub decreases-run_both-others : goal.decreases-run_both-others
decreases-run_both-others g l = 3 * length l.rest.now + 1

abbrev pub decreases-run_both : goal.decreases-run_both
decreases-run_both g l = 3 * length l.rest.now + 2

abbrev pub decreases-run_from : goal.decreases-run_from
decreases-run_from g l = 3 * length l.parts.now
