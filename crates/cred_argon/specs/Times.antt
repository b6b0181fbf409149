-- Places as the code counts them: by time, the number of columns that come before a place in its
-- lane, over all passes.
use Rattle.std.specs.Prelude.{◌≢◌, ℕ, ◌+◌, ◌-◌, ◌*◌, ◌<◌, ◌≤◌, Bool, min, ◌==◌, ◌||◌, if◌then◌else◌}
use Rattle.cred_argon.specs.{declared.place.Place.Place, Places.segment_of}

abbrev pub time_of : ℕ → Place → ℕ
time_of s p = p.pass * (4 * s) + p.column

-- how many places of a lane are finished for the place of offset k in segment g, and how many of
-- them it may refer to
abbrev pub finished_count : ℕ → ℕ → ℕ → Bool → ℕ
finished_count s g k own = min 3 g * s + (if own then k else 0)

abbrev pub reference_count : ℕ → ℕ → ℕ → Bool → ℕ
reference_count s g k own = finished_count s g k own - (if own || (k == 0) then 1 else 0)

-- the time of the place that two words name
pub record IsBefore (s lanes : ℕ) (p c : Place) : Type 0 where
  pub column_inside : c.column < 4 * s
  pub lane_inside : c.lane < lanes
  pub earlier : time_of s c < time_of s p
  pub recent : (segment_of s p - 3) * s ≤ time_of s c
  pub finished : c.lane ≢ p.lane → time_of s c < segment_of s p * s
