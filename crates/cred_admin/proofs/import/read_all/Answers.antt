use Rattle.std.proofs.{Common.◌≤◌, Common.◌<◌, Common.[], Common.◌++◌, Common.length, Common.take, Common.arith, Common.ap, Common.sym, Common.◌∙◌, Common.length-append, Common.length-take-le, Common.append-nil, KnownBytes.Consumes-all, KnownBytes.Consumes-trans}
use Rattle.cred_cli.specs.Watched.{left_on}
use Rattle.cred_cli.proofs.Basis.{gave_on}
use Rattle.cred_admin.proofs.Fits.{fits_through, fits_now}
use Rattle.cred_admin.proofs.import.read_all.Goals as goal

pub returns-in-Ok-eq0-clause-text : goal.returns-in-Ok-eq0-clause-text
returns-in-Ok-eq0-clause-text g c = λ basis fits.
    let reader = c.loop-call.reader in
    let now = c.read.new.self in
    let (was, _) = fits_through g.R.Read.remaining c.args.reader.now reader now (λ was. c.loop-call.invariant.goes_on ∙ was) (_, c.in-Ok-eq0.ensures.passed) basis fits in
    let gave = gave_on g.R.Read.remaining reader now basis _ c.read.new.buf c.in-Ok-eq0.ensures.bytes c.in-Ok-eq0.ensures.passed c.in-Ok-eq0.ensures.end (fits_now c.args.reader.now now basis fits) in
    let room : 0 < length c.read.new.buf = omega (arith, c.loop-call.invariant.size) in
    let came = Consumes-trans _ _ (left_on basis g.R.Read.remaining now) _ _ (c.loop-call.invariant.text basis was) gave.0 in
    Consumes-all _ _ _ [] _ came (gave.1 c.in-Ok-eq0.field-0-test room) (sym (ap (λ k. c.loop-call.text.items ++ take k c.read.new.buf) c.in-Ok-eq0.field-0-test ∙ append-nil c.loop-call.text.items))

pub loop-call-preserved : goal.loop-call-preserved
loop-call-preserved g c =
    let within : c.in-Ok.n ≤ length c.read.new.buf = omega (arith, c.in-Ok.ensures.bound) in
    record {
      text = λ basis fits.
          let reader = c.loop-call.reader in
          let now = c.read.new.self in
          let (was, _) = fits_through g.R.Read.remaining c.args.reader.now reader now (λ was. c.loop-call.invariant.goes_on ∙ was) (_, c.in-Ok.ensures.passed) basis fits in
          let gave = gave_on g.R.Read.remaining reader now basis _ c.read.new.buf c.in-Ok.ensures.bytes c.in-Ok.ensures.passed c.in-Ok.ensures.end (fits_now c.args.reader.now now basis fits) in
          rw c.in_ok-extend_from_slice-in-Ok.ensures.items (Consumes-trans _ _ (left_on basis g.R.Read.remaining now) _ _ (c.loop-call.invariant.text basis was) gave.0);
      goes_on = c.in-Ok.ensures.goes_on (omega (arith, c.in-Ok.n-test)) ∙ c.loop-call.invariant.goes_on;
      kept = c.in-Ok.ensures.kept ∙ c.loop-call.invariant.kept;
      calls = omega (arith, c.loop-call.invariant.calls, c.in-Ok.n-test, ap length c.in_ok-extend_from_slice-in-Ok.ensures.items, length-append c.loop-call.text.items (take c.in-Ok.n c.read.new.buf), length-take-le c.in-Ok.n c.read.new.buf within);
      size = omega (arith, c.loop-call.invariant.size, c.read.auto.buf);
    }
