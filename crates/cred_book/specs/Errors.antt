-- The numbers and words of the errors.
use Rattle.std.specs.Prelude.{ℕ, List, codes}
use Rattle.cred_book.specs.declared.error.BookError.{BookError}
use Rattle.cred_book.specs.declared.error.BookError.TheVariants.{Exists, Full, Name, Memory, NoAccount}

abbrev pub error_number : BookError → ℕ
error_number Exists = 1
error_number Full = 2
error_number Name = 3
error_number Memory = 4
error_number NoAccount = 5

abbrev pub error_word : BookError → List ℕ
error_word Exists = codes "exists"
error_word Full = codes "full"
error_word Name = codes "name"
error_word Memory = codes "memory"
error_word NoAccount = codes "noaccount"
