use Rattle.std.proofs.Common.{sym, arith, rules}
use Rattle.cred_tries.specs.Counts.{wait}
use Rattle.cred_tries.proofs.Waited.{wait_far}
use Rattle.cred_tries.proofs.count.wait.Goals as goal

pub returns-then-more-lt-SHORT_WAITS : goal.returns-then-more-lt-SHORT_WAITS
unfolding wait
returns-then-more-lt-SHORT_WAITS c = search rules

pub returns-else-more-lt-SHORT_WAITS : goal.returns-else-more-lt-SHORT_WAITS
returns-else-more-lt-SHORT_WAITS c = sym (wait_far c.args.more (omega arith))
