use Rattle.std.proofs.{Common.◌-◌, Common.◌+◌, Common.◌*◌, Common.arith, lemmas.Slice.take-put_mid}
use Rattle.cred_scrypt.specs.Diagonals.{block_of}
use Rattle.cred_scrypt.proofs.blockmix.put.Goals as goal

pub returns : goal.returns
returns c =
    let at = 16 * c.args.i in
    rw (c.copy_from_slice.ensures.after, c.block_of.ensures)
    (take-put_mid at (at + 16 - at) c.args.into.now (block_of c.args.x.now) (16 * (c.args.i + 1))
    (omega arith) (omega (arith, c.requires)))
