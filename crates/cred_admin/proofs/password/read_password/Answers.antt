use Rattle.std.proofs.{Common.inl, Common.inr, Common.[], Common.◌∷◌, Common.Some, Common.length, Common.refl, Common.ap, Common.◌∙◌, Common.arith, lemmas.List.length-append}
use Rattle.cred_admin.proofs.{Fits.fits_through, Fits.gives_more, Fits.gives_nothing, Reading.begins, Reading.ended, Reading.ended_at, Reading.long_line, Reading.more, Reading.no_line, Reading.not_ten, Reading.on_ok}
use Rattle.cred_admin.proofs.password.read_password.Goals as goal

pub returns-in_default-clause-line : goal.returns-in_default-clause-line
returns-in_default-clause-line g c = λ basis fits.
    let (was, now) = fits_through g.R.Read.remaining c.args.reader.now c.loop-taken.reader c.next_byte.new.reader (λ was. c.loop-taken.invariant.goes_on ∙ was) c.next_byte.ensures.given basis fits in
    ended _ _ _ _ _ _ (c.loop-taken.invariant.line basis was) (c.in_ok-byte.ensures.byte basis now) (inl (c.in_default.is, omega (arith, c.loop-taken.invariant.count, c.if-taken-eq0.false))) (rw c.deref.ensures.value at c.password.ensures.value)

pub returns-then-taken-eq0-clause-misread : goal.returns-then-taken-eq0-clause-misread
returns-then-taken-eq0-clause-misread g c = λ basis fits.
    let (was, now) = fits_through g.R.Read.remaining c.args.reader.now c.loop-taken.reader c.next_byte.new.reader (λ was. c.loop-taken.invariant.goes_on ∙ was) c.next_byte.ensures.given basis fits in
    inr (inr (inl (refl, no_line _ _ _ _ _ (c.loop-taken.invariant.line basis was) (c.in_ok-byte.ensures.byte basis now) c.in_default.is (c.loop-taken.invariant.count ∙ c.if-taken-eq0.true))))

pub returns-then-byte-eq10-clause-line : goal.returns-then-byte-eq10-clause-line
returns-then-byte-eq10-clause-line g c = λ basis fits.
    let (was, now) = fits_through g.R.Read.remaining c.args.reader.now c.loop-taken.reader c.next_byte.new.reader (λ was. c.loop-taken.invariant.goes_on ∙ was) c.next_byte.ensures.given basis fits in
    ended _ _ _ _ _ _ (c.loop-taken.invariant.line basis was) (c.in_ok-byte.ensures.byte basis now) (inr (c.in-Some.is ∙ ap Some c.if-byte-eq10.true))
    (rw c.deref-then-byte-eq10.ensures.value at c.password-then-byte-eq10.ensures.value)

pub returns-in_default-clause-end : goal.returns-in_default-clause-end
returns-in_default-clause-end g c = λ basis fits open_ is.
    let (was, now) = fits_through g.R.Read.remaining c.args.reader.now c.loop-taken.reader c.next_byte.new.reader (λ was. c.loop-taken.invariant.goes_on ∙ was) c.next_byte.ensures.given basis fits in
    on_ok c.password.result (ended_at _ _ _ _ _ (c.loop-taken.invariant.line basis was) (c.in_ok-byte.ensures.byte basis now) c.in_default.is)

pub loop-taken-init : goal.loop-taken-init
loop-taken-init g c = record {
  line = λ basis fits bytes known. (bytes, known, rw c.new-line.ensures.items (begins bytes));
  goes_on = refl;
  given = gives_nothing c.args.reader.now;
  kept = refl;
  count = ap length c.new-line.ensures.items;
}

pub loop-taken-preserved : goal.loop-taken-preserved
loop-taken-preserved g c = record {
  line = λ basis fits.
      let (was, now) = fits_through g.R.Read.remaining c.args.reader.now c.loop-taken.reader c.next_byte.new.reader (λ was. c.loop-taken.invariant.goes_on ∙ was) c.next_byte.ensures.given basis fits in
      more _ _ _ _ _ c.in-Some.byte (c.loop-taken.invariant.line basis was) (rw c.in-Some.is at (c.in_ok-byte.ensures.byte basis now)) (not_ten _ c.if-byte-eq10.false) c.in_ok-keep.ensures.kept;
  goes_on = (rw c.in-Some.is at c.in_ok-byte.ensures.goes_on) ∙ c.loop-taken.invariant.goes_on;
  given = gives_more c.args.reader.now c.loop-taken.reader c.next_byte.new.reader c.loop-taken.invariant.given c.next_byte.ensures.given;
  kept = c.in_ok-byte.ensures.kept ∙ c.loop-taken.invariant.kept;
  count = omega (arith, ap length c.in_ok-keep.ensures.kept, length-append c.loop-taken.line.items (c.in-Some.byte ∷ []), c.loop-taken.invariant.count);
}

pub returns-clause-misread : goal.returns-clause-misread
returns-clause-misread g c = λ basis fits. inr (inr (inr (refl, long_line _ _ _ (c.loop-taken.invariant.line basis fits) (omega (arith, c.loop-taken.invariant.count, c.loop-taken-test.false)))))
