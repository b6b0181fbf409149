use Rattle.std.proofs.Common.{refl, sym}
use Rattle.std.proofs.lemmas.Bool.{lt-ltb, le-ltb}
use Rattle.std.specs.FinMap as map
use Rattle.cred_book.specs.Accounts.{book_capacity}
use Rattle.cred_book.proofs.Commitments.{not_refused}
use Rattle.cred_book.proofs.book.Book.put.Goals as goal

pub returns-then-contains : goal.returns-then-contains
returns-then-contains c = rw (← c.if-contains.ensures) c.replace.ensures

pub unreachable-requires : goal.unreachable-requires
unreachable-requires c = not_refused _ _ _ _ c.args.now _ c.in-Err.ensures.done c.in-Err.ensures.granted (sym c.if-contains.ensures) c.if-not-is_full.ensures

pub returns-in-Ok : goal.returns-in-Ok
returns-in-Ok c =
    let entered = c.in-Ok.ensures.done in
    rw (entered.0, lt-ltb (map.len c.args.self.now) book_capacity entered.1) entered.2

pub returns-else-not-is_full : goal.returns-else-not-is_full
returns-else-not-is_full c = rw (← c.if-contains.ensures, le-ltb (map.len c.args.self.now) book_capacity c.if-not-is_full.ensures) refl
