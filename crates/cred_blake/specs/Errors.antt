-- The numbers and words of the errors.
use Rattle.std.specs.Prelude.{ℕ, List, codes}
use Rattle.cred_blake.specs.declared.error.BlakeError.{BlakeError}
use Rattle.cred_blake.specs.declared.error.BlakeError.TheVariants.{OutLen, KeyLen, Memory}

abbrev pub error_number : BlakeError → ℕ
error_number OutLen = 1
error_number KeyLen = 2
error_number Memory = 3

abbrev pub error_word : BlakeError → List ℕ
error_word OutLen = codes "outlen"
error_word KeyLen = codes "keylen"
error_word Memory = codes "memory"
