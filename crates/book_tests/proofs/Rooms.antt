-- A register's answer, where there are fewer names than a small book has room for.
use Rattle.std.proofs.Common.{◌≡◌, ◌<◌, ℕ, List, Result, Ok, Err, false, sym, ◌∙◌, arith}
use Rattle.std.specs.FinMap as map
use Rattle.std.proofs.lemmas.Bool.{true≢false}
use Rattle.cred_book.specs.{Accounts.Accounts, Accounts.register_capacity, Calls.AdmitsWithin, declared.error.BookError.BookError}
use Rattle.cred_book.specs.declared.error.BookError.TheVariants as error

pub narrower : (old new : Accounts) (name : List ℕ) (r : Result (Unit {0}) BookError) → map.contains_key old name ≡ false → map.len old < 3 →
    AdmitsWithin register_capacity old new name r → AdmitsWithin 3 old new name r
narrower old new name (Ok _) absent few admitted = (absent, few, admitted.2)
narrower old new name (Err error.Exists) absent few admitted = absurd (true≢false (sym admitted.0 ∙ absent))
narrower old new name (Err error.Full) absent few admitted = absurd (omega (arith, few, admitted.1))
narrower old new name (Err error.Memory) absent few admitted = (absent, few, admitted.2)
narrower old new name (Err error.Name) absent few admitted = absurd admitted
narrower old new name (Err error.NoAccount) absent few admitted = absurd admitted
