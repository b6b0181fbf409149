use Rattle.std.proofs.Common.{◌≡◌, length, arith}
use Rattle.base64.specs.Rfc4648.{unpadded_len}
use Rattle.cred_base64.proofs.PlaceLaws.{letters_from}
use Rattle.cred_base64.proofs.codec.encode.Goals as goal

pub returns : goal.returns
returns c =
    let done : c.loop-place.place ≡ length c.loop-place.letters = omega arith in
    let size : length c.loop-place.letters ≡ unpadded_len (length c.args.bytes.now) = omega arith in
    letters_from c.loop-place.letters c.args.bytes.now size (rw done at c.loop-place.invariant)
