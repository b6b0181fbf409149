-- The reason for which parameters are refused: the first of their faults.
use Rattle.std.specs.Prelude.{◌≡◌, ℕ, ◌*◌, ◌<◌, ◌≤◌, ◌⊎◌}
use Rattle.cred_argon.specs.Parameters.{Parameters}
use Rattle.cred_argon.specs.declared.params.TheConstants.{MAX_LANES, MAX_MEMORY, MAX_RAW_TAG, MAX_TAG, MIN_TAG}
use Rattle.cred_argon.specs.declared.error.ArgonError.{ArgonError}
use Rattle.cred_argon.specs.declared.error.ArgonError.TheVariants.{Lanes, Cost, Passes, TagLen, InputLen, Memory}

abbrev pub LanesFit : Parameters → Type 0
LanesFit a = (1 ≤ a.lanes) × (a.lanes ≤ MAX_LANES)

abbrev pub MemoryFits : Parameters → Type 0
MemoryFits a = (8 * a.lanes ≤ a.memory) × (a.memory ≤ MAX_MEMORY)

-- the error is that of the first fault, if a tag has at most `most` bytes
abbrev pub IsFaultUpTo : ℕ → Parameters → ArgonError → Type 0
IsFaultUpTo most a Lanes = (a.lanes ≡ 0) ⊎ (MAX_LANES < a.lanes)
IsFaultUpTo most a Cost = LanesFit a × ((a.memory < 8 * a.lanes) ⊎ (MAX_MEMORY < a.memory))
IsFaultUpTo most a Passes = LanesFit a × MemoryFits a × (a.passes ≡ 0)
IsFaultUpTo most a TagLen =
    LanesFit a × MemoryFits a × (1 ≤ a.passes)
    × ((a.tag_len < MIN_TAG) ⊎ (most < a.tag_len))
IsFaultUpTo most a InputLen = ⊥
IsFaultUpTo most a Memory = ⊥

-- the error of a tag that a record can hold
abbrev pub IsFirstFault : Parameters → ArgonError → Type 0
IsFirstFault a e = IsFaultUpTo MAX_TAG a e

-- the error of any tag that RFC 9106 allows
abbrev pub IsFirstRawFault : Parameters → ArgonError → Type 0
IsFirstRawFault a e = IsFaultUpTo MAX_RAW_TAG a e
