use Rattle.std.proofs.Common.{◌≡◌, ◌%◌, arith}
use Rattle.cred_base64.proofs.PlaceLaws.{first_byte, second_byte, third_byte, letters_of_byte}
use Rattle.cred_base64.proofs.sextets.byte.Goals as goal

pub returns-in-0 : goal.returns-in-0
returns-in-0 c =
    λ bytes small is inside. first_byte bytes c.args.place _ _ small c.in-0.is
    (c.read.ensures.letters bytes small is (letters_of_byte c.args.letters.now bytes c.args.place _ is inside (omega arith)))
    (c.read-in-0.ensures.letters bytes small is (letters_of_byte c.args.letters.now bytes c.args.place _ is inside (omega arith)))

pub returns-in-1 : goal.returns-in-1
returns-in-1 c =
    λ bytes small is inside. second_byte bytes c.args.place _ _ small c.in-1.is
    (c.read-in-1.ensures.letters bytes small is (letters_of_byte c.args.letters.now bytes c.args.place _ is inside (omega arith)))
    (c.read-in-1-2.ensures.letters bytes small is (letters_of_byte c.args.letters.now bytes c.args.place _ is inside (omega arith)))

pub returns-in_default : goal.returns-in_default
returns-in_default c =
    let which : c.args.place % 3 ≡ 2 = omega arith in
    λ bytes small is inside. third_byte bytes c.args.place _ _ small which
    (c.read-in_default.ensures.letters bytes small is (letters_of_byte c.args.letters.now bytes c.args.place _ is inside (omega arith)))
    (c.read-in_default-2.ensures.letters bytes small is (letters_of_byte c.args.letters.now bytes c.args.place _ is inside (omega arith)))
