use Rattle.std.proofs.Common.{◌≡◌}
use Rattle.cred_argon.specs.Slices.{IsBegun}
use Rattle.cred_argon.proofs.start.begin_segments.Given as goal

abbrev pub invariant-lanes : goal.invariant-lanes
invariant-lanes l = IsBegun l.params l.hash l.lane l.segments × (l.lane-end ≡ l.params.lanes)
