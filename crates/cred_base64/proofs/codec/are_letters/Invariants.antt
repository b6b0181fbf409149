use Rattle.std.proofs.Common.{◌≡◌, ◌↔◌, true}
use Rattle.cred_base64.proofs.PlaceLaws.{AgreeUpTo}
use Rattle.cred_base64.proofs.codec.are_letters.Given as goal

abbrev pub invariant-loop-place : goal.invariant-loop-place
invariant-loop-place l = (l.same ≡ true) ↔ AgreeUpTo l.letters l.bytes l.place
