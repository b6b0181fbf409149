use Rattle.std.proofs.{Common.inl, Common.inr, Common.refl, KnownBytes.Keeps-refl, lemmas.Result.err_from_is_err_and}
use Rattle.cred_admin.proofs.account_operation.AccountOperation.carry_out.Goals as goal

pub returns-in_err-reply : goal.returns-in_err-reply
returns-in_err-reply g c = λ basis.
    let told = err_from_is_err_and c.from_residual.result c.from_residual.ensures.1 in
    inr (c.in_err-reply.field-0.0, c.in_err-reply.ensures, rw (told.1, told.2) refl, Keeps-refl _)

pub returns : goal.returns
returns g c = λ basis. inl (c.in_ok-reply.reply, c.in_ok-reply.ensures, rw (c.account_reply_line.ensures, c.account_reply_status.ensures) at (c.tell.ensures.told basis), c.tell.ensures.fault)
