use Rattle.std.proofs.Common.{arith, refl}
use Rattle.cred_book.proofs.Kept.{is_there, is_absent, insert_there, kept_insert, len_of}
use Rattle.cred_book.proofs.book.AccountArrayAccountMap.enter.Goals as goal

pub returns-in_default-clause-done : goal.returns-in_default-clause-done
returns-in_default-clause-done c =
    let place = rw c.deref.ensures.value at c.in_default.ensures in
    (is_there _ _ c.self.invariant _ c.self.view_is _ _ place (c.args.name, c.args.stored), refl)

pub returns-then-len-ge-BOOK_CAPACITY-clause-done : goal.returns-then-len-ge-BOOK_CAPACITY-clause-done
returns-then-len-ge-BOOK_CAPACITY-clause-done c =
    let gap = rw c.deref.ensures.value at c.in-Err.ensures in
    (is_absent _ _ c.self.invariant _ c.self.view_is _ _ gap, omega (arith, c.if-len-ge-BOOK_CAPACITY.true, c.len.ensures.len), refl)

pub unreachable-requires : goal.unreachable-requires
unreachable-requires c = omega (arith, c.in-Err-insert.ensures.full, len_of _ c.self.invariant.sorted _ c.self.view_is, c.if-len-ge-BOOK_CAPACITY.false, c.len.ensures.len, c.self.invariant.room, c.self.inside.entries.ok.0)

pub invariant_of-self : goal.invariant_of-self
invariant_of-self c =
    let gap = rw c.deref.ensures.value at c.in-Err.ensures in
    rw c.in-Ok.ensures.items (kept_insert _ _ c.self.invariant _ c.self.view_is _ _ gap _ _ (omega (arith, c.if-len-ge-BOOK_CAPACITY.false, c.len.ensures.len)) (omega (arith, c.in-Ok.ensures.capacity, c.self.invariant.room)))

pub returns-clause-done : goal.returns-clause-done
returns-clause-done c =
    let gap = rw c.deref.ensures.value at c.in-Err.ensures in (
      is_absent _ _ c.self.invariant _ c.self.view_is _ _ gap,
      omega (arith, c.if-len-ge-BOOK_CAPACITY.false, c.len.ensures.len),
      rw c.in-Ok.ensures.items (insert_there _ _ c.self.invariant _ c.self.view_is _ _ gap _),
    )
