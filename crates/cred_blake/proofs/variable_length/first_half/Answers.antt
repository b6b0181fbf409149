use Rattle.std.proofs.{Common.length, Common.ap, Common.sym, Common.arith, lemmas.List.length-take-le}
use Rattle.cred_blake.proofs.variable_length.first_half.Goals as goal

pub returns-clause-len : goal.returns-clause-len
returns-clause-len c = length-take-le 32 c.bytes-bytes.result.now (omega (arith, ap length c.bytes-bytes.ensures))

pub slice_bounds-result-end : goal.slice_bounds-result-end
slice_bounds-result-end c = sym (length-take-le 32 c.bytes-bytes.result.now (omega (arith, ap length c.bytes-bytes.ensures)))
