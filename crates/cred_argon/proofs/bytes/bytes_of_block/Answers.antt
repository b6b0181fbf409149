use Rattle.std.proofs.{Common.rules, Common.◌∙◌, Common.arith, lemmas.Slice.overwrites}
use Rattle.cred_blake.proofs.WordBytes.{bytes_of_more}
use Rattle.cred_argon.proofs.bytes.bytes_of_block.Goals as goal

pub words-preserved : goal.words-preserved
words-preserved c =
    (search (rules, overwrites), bytes_of_more c.words.bytes c.args.block.now.0 _ c.words.i _ c.words.invariant.1 (omega arith) (omega arith) (c.copy_from_slice.ensures.after ∙ c.to_le_bytes.ensures))
