use Rattle.std.proofs.Common.{ap, arith, length}
use Rattle.cred_tries.proofs.Listed.{few_waits}
use Rattle.cred_tries.proofs.limiter.Limiter.waits.Goals as goal

pub returns-clause-few : goal.returns-clause-few
returns-clause-few c =
    let fewer = few_waits c.self.inside.limit c.moment.result c.iter.result in
    omega (arith, fewer, c.iter.ensures.few, ap length c.new.ensures)
