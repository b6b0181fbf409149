-- Places of blocks, and the blocks that a place may refer to (RFC 9106, section 3.4.2). s is the
-- number of columns of a segment.
use Rattle.std.specs.Prelude.{◌≡◌, ℕ, ◌+◌, ◌-◌, ◌*◌, ◌/◌, ◌%◌, ◌^◌, ◌<◌, ◌≤◌, List, Bool, length, map, filter, flat_map, take, nat_le, nat_lt, ◌==◌, ◌&&◌, ◌||◌, if◌then◌else◌, slice_index_or}
use Rattle.std.specs.List.{range_with_len}
use Rattle.cred_argon.specs.{declared.place.Place.Place, declared.position.Position.Position}

abbrev pub place : ℕ → ℕ → ℕ → Place
place r i j = record { pass = r; lane = i; column = j }

-- the place of a position
abbrev pub place_of : ℕ → Position → Place
place_of s at = place at.pass at.lane (at.slice * s + at.offset)

-- the number of a place's segment, over all passes
abbrev pub segment_of : ℕ → Place → ℕ
segment_of s p = 4 * p.pass + p.column / s

-- the place lies in the memory
pub record IsPlace (s lanes : ℕ) (p : Place) : Type 0 where
  pub lane_inside : p.lane < lanes
  pub column_inside : p.column < 4 * s

-- the place lies in the memory, and is computed from others
pub record IsComputed (s lanes : ℕ) (p : Place) : Type 0 where
  pub lane_inside : p.lane < lanes
  pub column_inside : p.column < 4 * s
  pub not_first : p.pass ≡ 0 → 2 ≤ p.column

-- the places of a lane on the passes up to one, by pass, then column
abbrev pub lane_places : ℕ → ℕ → ℕ → List Place
lane_places s last l =
    flat_map (λ r. map (λ j. place r l j) (range_with_len 0 (4 * s))) (range_with_len 0 (last + 1))

-- c lies in one of the three segments before p's, as far as there are three, or in p's own segment
-- and lane, before p
abbrev pub is_finished : ℕ → Place → Place → Bool
is_finished s p c =
    (nat_le (segment_of s p - 3) (segment_of s c) && nat_lt (segment_of s c) (segment_of s p))
    || ((c.lane == p.lane) && ((segment_of s c == segment_of s p) && nat_lt c.column p.column))

abbrev pub without_last : List Place → List Place
without_last xs = take (length xs - 1) xs

-- W: the places of lane l that p may refer to, the oldest first. The last is left out in p's own
-- lane, if it is the block before p, and in another lane if p is the first of its segment.
unfoldable pub reference_set : ℕ → Place → ℕ → List Place
reference_set s p l =
    let all = filter (is_finished s p) (lane_places s p.pass l) in
    if (l == p.lane) || (p.column % s == 0) then without_last all else all

-- the lane that the word j2 names: in the first segment of all the own lane
abbrev pub reference_lane : ℕ → ℕ → Place → ℕ → ℕ
reference_lane s lanes p j2 = if segment_of s p == 0 then p.lane else j2 % lanes

-- which element of a list of n the word j1 picks: the later ones more often
abbrev pub pick : ℕ → ℕ → ℕ
pick n j1 = n - 1 - n * (j1 * j1 / 2 ^ 32) / 2 ^ 32

-- the place that the words j1 and j2 name at p
unfoldable pub reference_place : ℕ → ℕ → Place → ℕ → ℕ → Place
reference_place s lanes p j1 j2 =
    let w = reference_set s p (reference_lane s lanes p j2) in
    slice_index_or w (pick (length w) j1) p
