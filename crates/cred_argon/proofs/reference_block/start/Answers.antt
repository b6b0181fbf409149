use Rattle.std.proofs.Common.{arith}
use Rattle.cred_argon.proofs.Picks.{start_later}
use Rattle.cred_argon.proofs.reference_block.start.Goals as goal

pub returns-else-position-eq0-clause-value : goal.returns-else-position-eq0-clause-value
returns-else-position-eq0-clause-value c = start_later c.args.position.now.pass c.args.position.now.slice c.args.segment_len (omega arith) c.requires.some
