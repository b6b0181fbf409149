use Rattle.std.proofs.Common.{◌≡◌, ◌+◌, ◌*◌, sym, arith}
use Rattle.std.proofs.{lemmas.Nat.div-mul-add, lemmas.Nat.mod-mul-add}
use Rattle.cred_argon.proofs.earlier.slice_and_offset.Goals as goal

pub returns-clause-slice : goal.returns-clause-slice
returns-clause-slice c =
    let s = c.args.segment_len in
    let q = 2 * c.past-pairs.result.0 + c.past-more.result.0 in
    let sum : q * s + c.past-more.result.1 ≡ c.args.column = omega (arith, c.past-pairs.ensures.sum, c.past-more.ensures.sum) in
    rw sum at (sym (div-mul-add q s c.past-more.result.1 c.past-more.ensures.below))

pub returns-clause-offset : goal.returns-clause-offset
returns-clause-offset c =
    let s = c.args.segment_len in
    let q = 2 * c.past-pairs.result.0 + c.past-more.result.0 in
    let sum : q * s + c.past-more.result.1 ≡ c.args.column = omega (arith, c.past-pairs.ensures.sum, c.past-more.ensures.sum) in
    rw sum at (sym (mod-mul-add q s c.past-more.result.1 c.past-more.ensures.below))
