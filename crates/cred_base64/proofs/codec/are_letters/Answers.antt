use Rattle.std.proofs.Common.{◌≡◌, length, ap, arith}
use Rattle.base64.specs.Rfc4648.{unpadded_len}
use Rattle.cred_base64.proofs.PlaceLaws.{agree_all, letters_from, length-letters}
use Rattle.cred_base64.proofs.codec.are_letters.Goals as goal

pub returns-then-letters-encoded_len-clause-same : goal.returns-then-letters-encoded_len-clause-same
returns-then-letters-encoded_len-clause-same c = (λ f. cc f, λ is. absurd (omega (arith, ap length is, length-letters c.args.bytes.now)))

pub returns-clause-same : goal.returns-clause-same
returns-clause-same c =
    let done : c.loop-place.place ≡ length c.args.letters.now = omega arith in
    let size : length c.args.letters.now ≡ unpadded_len (length c.args.bytes.now) = omega arith in
    let held = rw done at c.loop-place.invariant in (
      λ same. letters_from c.args.letters.now c.args.bytes.now size (held.0 same),
      λ is. held.1 (agree_all c.args.letters.now c.args.bytes.now is),
    )

pub returns-then-letters-encoded_len-clause-bytes : goal.returns-then-letters-encoded_len-clause-bytes
returns-then-letters-encoded_len-clause-bytes c = λ i. omega (arith, c.type_inv.bytes i)

pub returns-clause-bytes : goal.returns-clause-bytes
returns-clause-bytes c = λ i. omega (arith, c.type_inv.bytes i)
