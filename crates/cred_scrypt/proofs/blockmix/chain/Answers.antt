use Rattle.std.proofs.Common.{◌∙◌, ap}
use Rattle.cred_scrypt.specs.{Xor.xor_all, Salsa.salsa20_8, Diagonals.block_of}
use Rattle.cred_scrypt.proofs.blockmix.chain.Goals as goal

pub returns : goal.returns
returns c =
    c.mixed.ensures
    ∙ ap salsa20_8 (c.xored.ensures ∙ ap (xor_all (block_of c.args.x.now)) c.block.ensures)
