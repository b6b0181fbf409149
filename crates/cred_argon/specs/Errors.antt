-- The numbers and words of the errors.
use Rattle.std.specs.Prelude.{ℕ, List, codes}
use Rattle.cred_argon.specs.declared.error.ArgonError.{ArgonError}
use Rattle.cred_argon.specs.declared.error.ArgonError.TheVariants.{Lanes, Cost, Passes, TagLen, InputLen, Memory}

abbrev pub error_number : ArgonError → ℕ
error_number Lanes = 1
error_number Cost = 2
error_number Passes = 3
error_number TagLen = 4
error_number InputLen = 5
error_number Memory = 6

abbrev pub error_word : ArgonError → List ℕ
error_word Lanes = codes "lanes"
error_word Cost = codes "cost"
error_word Passes = codes "passes"
error_word TagLen = codes "taglen"
error_word InputLen = codes "inputlen"
error_word Memory = codes "memory"
