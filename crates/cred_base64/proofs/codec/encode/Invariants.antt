use Rattle.cred_base64.proofs.PlaceLaws.{AgreeUpTo}
use Rattle.cred_base64.proofs.codec.encode.Given as goal

abbrev pub invariant-loop-place : goal.invariant-loop-place
invariant-loop-place l = AgreeUpTo l.letters l.bytes l.place
