use Rattle.std.proofs.Common.{◌≡◌, take}
use Rattle.std.specs.Str.Parse.{digits_value}
use Rattle.cred_phc.specs.Number.{saturation}
use Rattle.cred_phc.proofs.pieces.decimal.Given as goal

abbrev pub invariant-loop-digit : goal.invariant-loop-digit
invariant-loop-digit l = l.number ≡ saturation (digits_value 10 (take l.digit-index l.digits))
