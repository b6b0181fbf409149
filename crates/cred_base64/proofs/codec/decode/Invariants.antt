use Rattle.cred_base64.proofs.DecodedLaws.{IsReading}
use Rattle.cred_base64.proofs.codec.decode.Given as goal

abbrev pub invariant-loop-place : goal.invariant-loop-place
invariant-loop-place l = IsReading l.letters l.bytes l.place
