use Rattle.std.proofs.{Common.arith, lemmas.List.length-take}
use Rattle.cred_many.proofs.source.LineReaderSource.read.Goals as goal

pub overflow_add-self : goal.overflow_add-self
overflow_add-self g c = let taken = length-take c.in-Ok.n c.read.new.buf in omega (arith, c.requires.few, c.read.auto.buf, c.line_ends.ensures.few, taken)
