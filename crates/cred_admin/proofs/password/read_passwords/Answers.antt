use Rattle.std.proofs.{Common.sym, Common.refl, Common.◌∙◌, lemmas.Result.err_from_is_err_and}
use Rattle.cred_admin.proofs.{Fits.came, Fits.fits_both, Reading.no_second, Misread.both_lines, Misread.first_missed, Misread.second_barred, Misread.second_missed}
use Rattle.cred_cli.specs.Watched.{left_on, reading_on}
use Rattle.cred_admin.proofs.password.read_passwords.Goals as goal

pub returns-in_err-first-clause-misread : goal.returns-in_err-first-clause-misread
returns-in_err-first-clause-misread g c = λ basis fits.
    let told = err_from_is_err_and c.from_residual.result c.from_residual.ensures.1 in
    rw (told.1, told.2) (first_missed c.args.wanted (reading_on basis g.R.Read.remaining c.args.reader.now c.read_password.new.reader) c.in_err-first.field-0.0 (c.in_err-first.ensures.misread basis fits))

pub returns-then-came_to_end-clause-misread : goal.returns-then-came_to_end-clause-misread
returns-then-came_to_end-clause-misread g c = λ basis fits.
    let ended = came _ _ _ c.came_to_end.ensures c.if-came_to_end.true in
    rw c.in-PresentAndNew.is (no_second _ _ _ (c.in_ok-first.ensures.line basis fits) (c.in_ok-first.ensures.end basis fits (sym c.ended-was_ended.ensures ∙ ended.0) ended.1))

pub returns-in-Ok-clause-misread : goal.returns-in-Ok-clause-misread
returns-in-Ok-clause-misread g c = λ basis fits.
    let fit = fits_both g.R.Read.remaining c.args.reader.now c.read_password.new.reader c.read_password-2.new.reader c.ended-was_ended.result c.came_to_end.result c.ended-was_ended.ensures c.came_to_end.ensures c.if-came_to_end.false c.read_password-2.ensures.given basis fits in
    rw c.in-PresentAndNew.is
    (second_barred c.in-PresentAndNew.empty (reading_on basis g.R.Read.remaining c.args.reader.now c.read_password-2.new.reader) c.in_ok-first.first c.in-Ok.last (sym c.if-is_barred-2.ensures)
    (both_lines _ (left_on basis g.R.Read.remaining c.read_password.new.reader) _ _ _ (c.in_ok-first.ensures.line basis fit.0) (c.in-Ok.ensures.line basis fit.1)))

pub returns-in_default-clause-misread : goal.returns-in_default-clause-misread
returns-in_default-clause-misread g c = λ basis fits.
    let fit = fits_both g.R.Read.remaining c.args.reader.now c.read_password.new.reader c.read_password-2.new.reader c.ended-was_ended.result c.came_to_end.result c.ended-was_ended.ensures c.came_to_end.ensures c.if-came_to_end.false c.read_password-2.ensures.given basis fits in
    rw c.in-PresentAndNew.is
    (second_missed c.in-PresentAndNew.empty (reading_on basis g.R.Read.remaining c.args.reader.now c.read_password-2.new.reader) (reading_on basis g.R.Read.remaining c.read_password.new.reader c.read_password-2.new.reader) c.in_ok-first.first refl (c.in_ok-first.ensures.line basis fit.0) c.in-Err.fault c.in_default.not-NoPassword (c.in-Err.ensures.misread basis fit.1))
