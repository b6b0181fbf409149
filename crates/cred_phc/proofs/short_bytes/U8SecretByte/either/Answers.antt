use Rattle.std.proofs.Common.{arith, refl}
use Rattle.std.proofs.lemmas.Nat.{le_or_l, le_or_r}
use Rattle.cred_phc.proofs.short_bytes.U8SecretByte.either.Goals as goal

pub returns : goal.returns
returns c = (λ none. (omega (arith, le_or_l c.args.self c.args.other, none), omega (arith, le_or_r c.args.self c.args.other, none)), λ both. rw (both.0, both.1) refl)
