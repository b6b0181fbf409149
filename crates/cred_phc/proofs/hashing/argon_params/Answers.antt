use Rattle.cred_phc.proofs.HashingLaws.{no_fault}
use Rattle.cred_phc.proofs.hashing.argon_params.Goals as goal

pub unreachable-requires : goal.unreachable-requires
unreachable-requires c =
    no_fault c.args.version c.argon_kind.result c.args.m c.args.t c.from.result c.from-2.result
    (rw c.from.ensures c.requires.fits) (rw c.from-2.ensures c.requires.low) (rw c.from-2.ensures c.requires.high)
    c.in-Err.field-0 ((c.with_version.ensures.err c.in-Err.field-0).0 c.in-Err.is)
