-- The numbers and words of the faults of scripts.
use Rattle.std.specs.Prelude.{ℕ, List, codes}
use Rattle.cred_cli.specs.declared.fault.ScriptFault.{ScriptFault}
use Rattle.cred_cli.specs.declared.fault.ScriptFault.TheVariants.{Read, Write, Memory, TooLong}

abbrev pub error_number : ScriptFault → ℕ
error_number Read = 1
error_number Write = 2
error_number Memory = 3
error_number TooLong = 4

abbrev pub error_word : ScriptFault → List ℕ
error_word Read = codes "read"
error_word Write = codes "write"
error_word Memory = codes "memory"
error_word TooLong = codes "toolong"
