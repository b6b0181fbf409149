use Rattle.std.specs.List.{list_any}
use Rattle.std.proofs.Common.{◌≡◌, length}
use Rattle.cred_admin.specs.Import.{has_bar}
use Rattle.cred_admin.proofs.entry.is_barred.Given as goal

-- the fields so far bar nobody
abbrev pub invariant-loop-field : goal.invariant-loop-field
invariant-loop-field l = list_any has_bar l.fields ≡ list_any has_bar l.fn.fields

abbrev pub decreases-loop-field : goal.decreases-loop-field
decreases-loop-field l = length l.fields
