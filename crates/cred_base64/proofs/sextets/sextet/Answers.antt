use Rattle.std.proofs.Common.{◌≡◌, ◌%◌, ◌/◌, ◌*◌, arith, refl, sym}
use Rattle.cred_base64.proofs.PlaceLaws.{group_bits}
use Rattle.cred_base64.proofs.sextets.sextet.Goals as goal

pub returns-in-0-clause-value : goal.returns-in-0-clause-value
returns-in-0-clause-value c =
    rw c.byte_at.ensures (sym (group_bits c.args.bytes.now (c.args.place / 4 * 3) c.args.place 0 c.in-0.is refl))

pub returns-in-1-clause-value : goal.returns-in-1-clause-value
returns-in-1-clause-value c =
    rw (c.byte_at-in-1.ensures, c.byte_at-in-1-2.ensures) (sym (group_bits c.args.bytes.now (c.args.place / 4 * 3) c.args.place 1 c.in-1.is refl))

pub returns-in-2-clause-value : goal.returns-in-2-clause-value
returns-in-2-clause-value c =
    rw (c.byte_at-in-2.ensures, c.byte_at-in-2-2.ensures) (sym (group_bits c.args.bytes.now (c.args.place / 4 * 3) c.args.place 2 c.in-2.is refl))

pub returns-in_default-clause-value : goal.returns-in_default-clause-value
returns-in_default-clause-value c =
    let which : c.args.place % 4 ≡ 3 = omega arith in
    rw c.byte_at-in_default.ensures (sym (group_bits c.args.bytes.now (c.args.place / 4 * 3) c.args.place 3 which refl))
