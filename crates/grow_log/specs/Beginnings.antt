-- The comparison of two beginnings of one log.
use Rattle.std.specs.Prelude.{◌<◌, List, length}
use mathlib.Core.List.{IsPrefix}

-- ys begins with xs, and goes on
abbrev pub IsLonger : {T : Type 0} → List T → List T → Type 0
IsLonger xs ys = IsPrefix xs ys × (length xs < length ys)
