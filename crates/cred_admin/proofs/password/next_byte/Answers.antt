use Rattle.std.proofs.Common.{arith}
use Rattle.cred_cli.proofs.Basis.{gave_on}
use Rattle.cred_admin.proofs.{Fits.fits_now, Reading.takes_one}
use Rattle.cred_admin.proofs.password.next_byte.Goals as goal

pub returns-in-Ok-clause-byte : goal.returns-in-Ok-clause-byte
returns-in-Ok-clause-byte g c = λ basis fits.
    let gave = gave_on g.R.Read.remaining c.args.reader.now c.read.new.self basis _ c.read.new.buf c.in-Ok.ensures.bytes c.in-Ok.ensures.passed c.in-Ok.ensures.end (fits_now c.args.reader.now c.read.new.self basis fits) in
    takes_one _ _ c.read.new.buf _ gave.0 (omega (arith, c.read.auto.buf)) (omega (arith, c.in-Ok.field-0-test, c.in-Ok.ensures.bound, c.read.auto.buf))
