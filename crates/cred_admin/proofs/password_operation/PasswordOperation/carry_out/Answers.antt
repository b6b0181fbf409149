use Rattle.std.proofs.{Common.Err, Common.Ok, Common.inl, Common.inr, Common.refl, KnownBytes.Keeps-refl, lemmas.Result.err_from_is_err_and}
use Rattle.cred_admin.proofs.password_operation.PasswordOperation.carry_out.Goals as goal

pub returns-in_err-typed-clause-done : goal.returns-in_err-typed-clause-done
returns-in_err-typed-clause-done g c = λ basis fits.
    let told = err_from_is_err_and c.from_residual.result c.from_residual.ensures.1 in
    inr (c.in_err-typed.field-0.0, rw (told.1, told.2) refl, inl (rw c.passwords.ensures at (c.in_err-typed.ensures.misread basis fits), refl), Keeps-refl _)

pub returns-in_err-verdict-clause-done : goal.returns-in_err-verdict-clause-done
returns-in_err-verdict-clause-done g c = λ basis fits.
    let told = err_from_is_err_and c.from_residual-in_err-verdict.result c.from_residual-in_err-verdict.ensures.1 in
    let read = rw c.passwords.ensures at (c.in_ok-typed.ensures.read basis fits) in
    inr (c.in_err-verdict.field-0.0, rw (told.1, told.2) refl, inr (c.in_ok-typed.typed, read, c.in_err-verdict.ensures), Keeps-refl _)

pub returns-clause-done : goal.returns-clause-done
returns-clause-done g c = λ basis fits.
    let read = rw c.passwords.ensures at (c.in_ok-typed.ensures.read basis fits) in
    let told = rw (c.verdict_line.ensures, c.verdict_status.ensures, c.hint_of-hint.ensures) at (c.tell.ensures.told basis) in
    inl (c.in_ok-typed.typed, read, c.in_ok-verdict.verdict, c.in_ok-verdict.ensures, told, c.tell.ensures.fault)
