use Rattle.std.proofs.Common.{◌≡◌}
use Rattle.cred_argon.specs.Slices.{IsEmptySlice}
use Rattle.cred_argon.proofs.start.empty_slice.Given as goal

abbrev pub invariant-lanes : goal.invariant-lanes
invariant-lanes l = IsEmptySlice l.segment_len l.lane l.segments.items × (l.scratch ≡ l.initial.scratch)
