-- The numbers and words of the errors.
use Rattle.std.specs.Prelude.{ℕ, List, codes}
use Rattle.cred_scrypt.specs.declared.error.ScryptError.{ScryptError}
use Rattle.cred_scrypt.specs.declared.error.ScryptError.TheVariants.{Cost, BlockSize, Blocks, Len, Memory}

abbrev pub error_number : ScryptError → ℕ
error_number Cost = 1
error_number BlockSize = 2
error_number Blocks = 3
error_number Len = 4
error_number Memory = 5

abbrev pub error_word : ScryptError → List ℕ
error_word Cost = codes "cost"
error_word BlockSize = codes "blocksize"
error_word Blocks = codes "blocks"
error_word Len = codes "len"
error_word Memory = codes "memory"
