-- A kept book as contracts see it.
use Rattle.std.specs.{Prelude.ℕ, Prelude.List, Prelude.Option, Prelude.refl, Coded.Coded, Coded.code_by, Coded.coded×, Coded.coded_option}
use Rattle.sqlite.specs.Held.{Held, held_code}
use Rattle.cred_book.specs.Accounts.{Accounts}
use Rattle.cred_book.specs.contracts.register.AccountTree as accounts
use Rattle.cred_file.specs.Cells.{Cells, Marks, cells_of, mark_at, mark_in}
use Rattle.cred_file.specs.declared.marks.Mark.{Mark}
use Rattle.cred_file.specs.contracts.marks.Marks as marked
use Rattle.cred_file.specs.declared.fault.Lost.{Lost}
use Rattle.cred_file.specs.contracts.fault.Lost as loss

-- the book as the answers so far have told it, its marks, the change that was under way when the
-- database failed, and the connection to the database
pub record Kept (S : Type 0) : Type 0 where
  pub book : Accounts
  pub marks : Marks
  pub lost : Option Lost
  pub conn : Held S

-- the book with the marks that its names have
abbrev pub cells : {S : Type 0} → Kept S → Cells
cells k = cells_of k.book (mark_at k.marks)

-- the mark of a name; none for a name that the book lacks
abbrev pub mark_of : {S : Type 0} → Kept S → List ℕ → Mark
mark_of k name = mark_in (cells k) name

-- how the logic stores one
abbrev pub kept_code : {S : Type 0} → Coded S → Coded (Kept S)
kept_code {S} store =
    code_by (Accounts × (Marks × (Option Lost × Held S)))
    (coded× accounts.the_row.coded
    (coded× marked.the_row.coded (coded× (coded_option loss.the_row.coded) (held_code store))))
    (λ k. (k.book, (k.marks, (k.lost, k.conn))))
    (λ p. record { book = p.0; marks = p.1.0; lost = p.1.1.0; conn = p.1.1.1 }) (λ _. refl)
