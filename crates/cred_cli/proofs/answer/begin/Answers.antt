use Rattle.std.proofs.Common.{◌≡◌, ap, refl, sym}
use Rattle.cred_book.specs.declared.{error.BookError.BookError, error.BookError.TheVariants.NoAccount, request.Request.Request}
use Rattle.cred_cli.proofs.StepLemmas.{stays_done, begun_busy, begun_absent, begun_fresh}
use Rattle.cred_cli.proofs.answer.begin.Goals as goal

pub returns-then-is_open : goal.returns-then-is_open
returns-then-is_open g c = stays_done c.bad.result _ _ _ _ (begun_busy _ _ _ _ (sym c.if-is_open.ensures)) c.bad.ensures

pub returns-in-Ok : goal.returns-in-Ok
returns-in-Ok g c = rw (begun_fresh _ _ _ _ _ (sym c.if-is_open.ensures) c.in-Ok.ensures) (refl, refl, c.open.ensures)

pub returns-in-Err : goal.returns-in-Err
returns-in-Err g c =
    let absent : c.in-Err.refusal ≡ NoAccount = ap (λ (p : Request × BookError). p.1) c.in-Err.ensures.0 in
    stays_done c.bad-in-Err.result _ _ _ _ (begun_absent _ _ _ _ (sym c.if-is_open.ensures) c.in-Err.ensures.1) (rw absent at c.bad-in-Err.ensures)
