use Rattle.std.proofs.Common.{◌≡◌, ◌≤◌, ◌++◌}
use Rattle.std.specs.Prelude.{vec_capacity}
use Rattle.std.specs.FinMap as map
use Rattle.cred_book.specs.Accounts.{book_capacity}
use Rattle.cred_book.proofs.book.Book.from_register.Given as goal

-- the entries go on with those that are left
abbrev pub invariant-loop-name : goal.invariant-loop-name
invariant-loop-name l = record {
  all : l.copied.items ++ l.name-iterator ≡ map.entries l.fn.register;
  room : book_capacity ≤ vec_capacity l.copied;
}
