use Rattle.std.proofs.Common.{◌≡◌, ◌∙◌, length, ap, arith}
use Rattle.cred_base64.specs.Letters.{bytes_with}
use Rattle.cred_base64.proofs.DecodedLaws.{bytes_with-letters, no_bytes}
use Rattle.cred_base64.proofs.codec.decode.Goals as goal

pub returns-then-are_letters-clause-ok : goal.returns-then-are_letters-clause-ok
returns-then-are_letters-clause-ok c =
    ap bytes_with (c.are_letters.ensures.same.0 c.if-are_letters.true) ∙ bytes_with-letters c.loop-place.bytes c.are_letters.ensures.bytes

pub returns-clause-not_base64 : goal.returns-clause-not_base64
returns-clause-not_base64 c =
    let done : c.loop-place.place ≡ length c.loop-place.bytes = omega arith in
    no_bytes c.args.letters.now c.loop-place.bytes (λ i. omega (arith, c.type_inv.letters i)) (omega arith) (rw done at c.loop-place.invariant)
    (λ is. cc (c.are_letters.ensures.same.1 is, c.if-are_letters.false))
