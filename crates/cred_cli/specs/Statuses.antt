-- Exit statuses.
use Rattle.std.specs.Prelude.{ℕ}
use Rattle.cred_cli.specs.{declared.exit_status.ExitStatus.ExitStatus, declared.fault.ScriptFault.ScriptFault, declared.fault.ScriptFault.TheVariants.Memory}
use Rattle.cred_cli.specs.declared.exit_status.ExitStatus.TheVariants.{Done, Refused, Failed, OutOfMemory, No}

abbrev pub status_number : ExitStatus → ℕ
status_number Done = 0
status_number Refused = 1
status_number Failed = 2
status_number OutOfMemory = 3
status_number No = 4

-- that of a script that met a fault
abbrev pub status_of : ScriptFault → ExitStatus
status_of Memory = OutOfMemory
status_of _ = Failed
