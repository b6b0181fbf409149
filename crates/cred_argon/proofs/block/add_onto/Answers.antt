use Rattle.std.proofs.Common.{arith}
use Rattle.cred_argon.proofs.Whole.{xor_words_is}
use Rattle.cred_argon.proofs.block.add_onto.Goals as goal

pub returns : goal.returns
returns c = xor_words_is c.args.out.now.0 c.args.x.now.0 c.words.out.0 c.words.invariant.0 (λ n h. c.words.invariant.1 n (omega arith))
