use Rattle.std.proofs.Common.{◌≡◌, ℕ, ◌-◌, ◌*◌, List}
use Rattle.cred_argon.specs.{Parameters.segment_len, Argon.last_blocks}
use Rattle.cred_argon.proofs.tag.last_blocks.Given as goal

abbrev pub invariant-lanes : goal.invariant-lanes
invariant-lanes g l =
    (l.last ≡ segment_len l.params - 1)
    × (l.lane-end ≡ l.params.lanes)
    × ((h : List ℕ) → g.S.Slice.holds l.params h (4 * l.params.passes - 1) l.newest → l.sum.0 ≡ last_blocks l.params h l.lane)
