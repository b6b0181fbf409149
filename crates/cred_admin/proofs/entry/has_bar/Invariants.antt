use Rattle.std.specs.List.{list_any}
use Rattle.std.proofs.Common.{◌≡◌, length}
use Rattle.cred_phc.specs.Pieces.{pieces}
use Rattle.cred_admin.specs.Import.{bars}
use Rattle.cred_admin.proofs.entry.has_bar.Given as goal

-- the items so far bar nobody
abbrev pub invariant-loop-item : goal.invariant-loop-item
invariant-loop-item l = list_any bars l.items ≡ list_any bars (pieces 32 l.fn.field)

abbrev pub decreases-loop-item : goal.decreases-loop-item
decreases-loop-item l = length l.items
