use Rattle.std.proofs.Common.{arith, refl}
use Rattle.cred_phc.proofs.BytesLaws.{padded}
use Rattle.cred_phc.proofs.short_bytes.ShortBytes.new.Goals as goal

pub invariant_of-result : goal.invariant_of-result
invariant_of-result g c =
    rw c.copy_from_slice.ensures.after (padded g.row.CAP _ c.args.bytes.now refl c.if-bytes.false (λ i. omega (arith, c.type_inv.bytes i)))
