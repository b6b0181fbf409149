-- The numbers and words of refused lines.
use Rattle.std.specs.Prelude.{ℕ, List, codes}
use Rattle.cred_phc.specs.Errors.{error_number as text_number, error_word as text_word}
use Rattle.cred_book.specs.Errors.{error_number as book_number, error_word as book_word}
use Rattle.cred_cli.specs.declared.refusal.Refusal.{Refusal}
use Rattle.cred_cli.specs.declared.refusal.Refusal.TheVariants.{Long, Line, Key, Password, Busy, Idle, Costly, Text, Book}

abbrev pub error_number : Refusal → ℕ
error_number Long = 16
error_number Line = 11
error_number Key = 12
error_number Password = 13
error_number Busy = 14
error_number Idle = 15
error_number Costly = 18
error_number (Text e) = text_number e
error_number (Book e) = book_number e

abbrev pub error_word : Refusal → List ℕ
error_word Long = codes "long"
error_word Line = codes "line"
error_word Key = codes "key"
error_word Password = codes "password"
error_word Busy = codes "busy"
error_word Idle = codes "idle"
error_word Costly = codes "costly"
error_word (Text e) = text_word e
error_word (Book e) = book_word e
