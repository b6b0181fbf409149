use Rattle.std.proofs.{Common.refl, Common.rules, lemmas.Result.err_from_is_err_and}
use Rattle.cred_admin.proofs.Printed.{begun, broken, ended, no_room, piece, pushed}
use Rattle.cred_admin.proofs.listing.list.Goals as goal

pub loop-name-init : goal.loop-name-init
loop-name-init g c = λ basis. begun _ _ _ _ _ (search rules) c.new-text.ensures.items

pub loop-name-preserved : goal.loop-name-preserved
loop-name-preserved g c = λ basis.
    piece _ _ _ _ _ _ _ _ (pushed _ _ _ _ _ _ _ _ _ (c.loop-name.invariant basis) c.in-Some.ensures.steps (rw (c.stored.ensures, c.mark_of.ensures) at c.in_ok-push_line.ensures)) (c.in_ok-write_piece.ensures.done basis)

pub returns-in_err-push_line : goal.returns-in_err-push_line
returns-in_err-push_line g c = λ basis.
    let told = err_from_is_err_and c.from_residual.result c.from_residual.ensures.1 in
    rw (told.1, told.2) (no_room _ _ _ _ _ _ _ _ (c.loop-name.invariant basis) c.in-Some.ensures.steps)

pub returns-in_err-write_piece : goal.returns-in_err-write_piece
returns-in_err-write_piece g c = λ basis.
    let told = err_from_is_err_and c.from_residual-in_err-write_piece.result c.from_residual-in_err-write_piece.ensures.1 in
    let fault = c.in_err-write_piece.ensures.fault in
    rw (told.1, told.2, fault.0)
    (fault.1, broken _ _ _ _ _ _ _ (pushed _ _ _ _ _ _ _ _ _ (c.loop-name.invariant basis) c.in-Some.ensures.steps (rw (c.stored.ensures, c.mark_of.ensures) at c.in_ok-push_line.ensures)) (c.in_err-write_piece.ensures.cut basis))

pub returns-in_err-write_whole : goal.returns-in_err-write_whole
returns-in_err-write_whole g c = λ basis.
    let told = err_from_is_err_and c.from_residual-in_err-write_whole.result c.from_residual-in_err-write_whole.ensures.1 in
    let fault = c.in_err-write_whole.ensures.fault in
    rw (told.1, told.2, fault.0) (fault.1, broken _ _ _ _ _ _ _ (c.loop-name.invariant basis) (rw c.deref.ensures.value at (c.in_err-write_whole.ensures.cut basis)))

pub returns : goal.returns
returns g c = λ basis. (ended _ _ _ _ _ _ _ (c.loop-name.invariant basis) c.in-None.ensures.steps.0 (rw c.deref.ensures.value at (c.in_ok-write_whole.ensures.done basis)), refl)
