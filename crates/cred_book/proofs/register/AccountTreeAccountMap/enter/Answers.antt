use Rattle.std.proofs.Common.{◌∙◌, Some, ap, arith, is_some, refl, sym}
use Rattle.std.specs.FinMap as map
use Rattle.cred_book.proofs.Kept.{len_of}
use Rattle.cred_book.proofs.Registered.{get_of, has_of, kept_of, written_of}
use Rattle.cred_book.proofs.Rows.{put_back}
use Rattle.cred_book.proofs.register.AccountTreeAccountMap.enter.Goals as goal

pub invariant_of-self : goal.invariant_of-self
invariant_of-self c =
    kept_of _ c.insert.ensures.ordered (omega (arith, rw c.in-Ok-None.field-0-is at c.in-Ok-None.ensures.len, len_of _ c.self.invariant.sorted _ c.self.view_is, c.if-len-ge-REGISTER_CAPACITY.false, c.len.ensures.len))

pub returns-in-Ok-None-clause-done : goal.returns-in-Ok-None-clause-done
returns-in-Ok-None-clause-done c =
    let absent = ap is_some (get_of _ c.self.invariant _ c.self.view_is c.args.name ∙ sym (rw c.in-Ok-None.field-0-is at c.in-Ok-None.ensures.old)) in
    let entered = written_of _ c.self.invariant _ c.self.view_is _ (invariant_of-self c) _ (Some _) c.in-Ok-None.ensures.updates.0 in
    (absent, omega (arith, c.if-len-ge-REGISTER_CAPACITY.false, c.len.ensures.len), entered ∙ ap (map.insert c.args.self.now c.args.name) c.in-Ok.ensures)

pub invariant_of-self-in-Ok-Some : goal.invariant_of-self-in-Ok-Some
invariant_of-self-in-Ok-Some c = kept_of _ c.insert.ensures.ordered (omega (arith, rw c.in-Ok-Some.field-0-is at c.in-Ok-Some.ensures.len, c.self.invariant.few))

pub replace-requires : goal.replace-requires
replace-requires c =
    let kept = kept_of c.insert.new.self.entries c.insert.ensures.ordered (omega (arith, rw c.in-Ok-Some.field-0-is at c.in-Ok-Some.ensures.len, c.self.invariant.few)) in
    sym (has_of _ kept _ refl c.args.name) ∙ ap is_some c.in-Ok-Some.ensures.updates.1

pub returns-in-Ok-Some-clause-done : goal.returns-in-Ok-Some-clause-done
returns-in-Ok-Some-clause-done c =
    let kept = kept_of c.insert.new.self.entries c.insert.ensures.ordered (omega (arith, rw c.in-Ok-Some.field-0-is at c.in-Ok-Some.ensures.len, c.self.invariant.few)) in
    let stood = get_of _ c.self.invariant _ c.self.view_is c.args.name ∙ sym (rw c.in-Ok-Some.field-0-is at c.in-Ok-Some.ensures.old) ∙ ap Some (sym c.stored.ensures) in
    let entered = written_of _ c.self.invariant _ c.self.view_is _ kept _ (Some _) c.in-Ok-Some.ensures.updates.0 in
    (ap is_some stood, c.replace.ensures ∙ ap (λ b. map.insert b c.args.name c.stored.result) entered ∙ put_back c.args.self.now c.args.name _ c.stored.result stood)

pub returns-clause-done : goal.returns-clause-done
returns-clause-done c = (
  ap is_some (get_of _ c.self.invariant _ c.self.view_is c.args.name ∙ c.in-Err.ensures.absent),
  omega (arith, c.if-len-ge-REGISTER_CAPACITY.false, c.len.ensures.len),
  ap (λ es. map.from_sorted es) c.in-Err.ensures.err ∙ c.self.view_is,
)
