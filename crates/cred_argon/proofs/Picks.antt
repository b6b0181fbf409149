-- The place that two words name, in time.
use Rattle.std.proofs.Common.{◌≡◌, ℕ, zero, suc, ◌<◌, ◌≤◌, ◌+◌, ◌-◌, ◌*◌, ◌/◌, ◌%◌, Bool, true, false, min, ◌==◌, ◌||◌, if◌then◌else◌, refl, sym, ◌∙◌, arith}
use Rattle.std.proofs.Math.Nat.{div-add-mod, mod-add-mod, mod-lt, mul-le-mul_right, mul-lt-mul_of_pos_right}
use Rattle.std.proofs.{lemmas.Nat.div-mul-add, lemmas.Nat.mod-mul-add, lemmas.Bool.cond_both, lemmas.Bool.ne_eqb, lemmas.Bool.Decides.nat_tests}
use Rattle.std.proofs.lemmas.List.FromFn.{length-map-range_with_len, get_or-map-range_with_len}
use Rattle.cred_argon.specs.{declared.place.Place.Place, declared.position.Position.Position}
use Rattle.cred_argon.specs.Places.{place_of, segment_of, IsComputed, reference_lane, pick, reference_place}
use Rattle.cred_argon.specs.Times.{time_of, reference_count, IsBefore}
use Rattle.cred_argon.proofs.Sets.{at_time, first_of, count_of, set_is, time_is, three_segments, own_least}

-- a segment before, or two blocks of the own one, leave an element
count_later : (s w k : ℕ) (own : Bool) → 2 ≤ s → s ≤ w → 0 < w + (if own then k else 0) - (if own || (k == 0) then 1 else 0)
count_later s w k own some h = grind (arith, nat_tests)

at_least_one : (g s : ℕ) → 0 < g → s ≤ min 3 g * s
at_least_one g s h = let one : 1 * s ≤ min 3 g * s = mul-le-mul_right s (omega arith) in omega (arith, one)

-- the list always has the element that is picked
pub count_some : (s lanes : ℕ) (p : Place) (j2 : ℕ) → 2 ≤ s → IsComputed s lanes p
    → 0 < count_of s p (reference_lane s lanes p j2 == p.lane)
count_some s lanes p j2 some computed = go (segment_of s p) refl
  where
    go : (g : ℕ) → segment_of s p ≡ g → 0 < count_of s p (reference_lane s lanes p j2 == p.lane)
    go zero same =
        let column_small : p.column / s ≡ 0 = omega (arith, same) in
        let whole : s * (p.column / s) + p.column % s ≡ p.column = div-add-mod p.column s in
        let parts : s * 0 + p.column % s ≡ p.column = rw column_small at whole in
        let offset : 2 ≤ p.column % s = omega (arith, parts, computed.not_first (omega (arith, same))) in
        let own : (p.lane == p.lane) ≡ true = grind (arith, nat_tests) in
        rw (same, own) (omega (arith, offset))
    go (suc g) same =
        rw same (count_later s (min 3 (suc g) * s) (p.column % s) _ some (at_least_one (suc g) s (omega arith)))

pub pick_below : (n j1 : ℕ) → 0 < n → pick n j1 < n
pick_below n j1 h = omega arith

-- the place that the words name is that of a time
pub reference_is : (s lanes : ℕ) (p : Place) (j1 j2 : ℕ) → 2 ≤ s → IsComputed s lanes p
    → let l = reference_lane s lanes p j2 in
    reference_place s lanes p j1 j2 ≡ at_time s l (first_of s p + pick (count_of s p (l == p.lane)) j1)
unfolding reference_place
reference_is s lanes p j1 j2 some computed =
    let l = reference_lane s lanes p j2 in
    let n = count_of s p (l == p.lane) in
    rw (set_is s p l (omega arith) computed.column_inside, length-map-range_with_len (at_time s l) (first_of s p) n)
    (get_or-map-range_with_len (at_time s l) (first_of s p) n (pick n j1) (first_of s p + pick n j1) p
    (pick_below n j1 (count_some s lanes p j2 some computed)) refl)

time_at : (s l n : ℕ) → time_of s (at_time s l n) ≡ n
time_at s l n = let whole : 4 * s * (n / (4 * s)) + n % (4 * s) ≡ n = div-add-mod n (4 * s) in omega (arith, whole)

lane_inside : (s lanes : ℕ) (p : Place) (j2 : ℕ) → p.lane < lanes → reference_lane s lanes p j2 < lanes
lane_inside s lanes p j2 h = cond_both (segment_of s p == 0) _ _ (λ (l : ℕ). l < lanes) (λ _. h) (λ _. mod-lt j2 (omega arith))

-- the time of that place, in the own lane or in another
before : (s lanes : ℕ) (p : Place) (l n : ℕ) (own : Bool) → 2 ≤ s → IsComputed s lanes p → l < lanes → (l == p.lane) ≡ own
    → n < count_of s p own → IsBefore s lanes p (at_time s l (first_of s p + n))
before s lanes p l n own some computed inside same below =
    let stretch : first_of s p + min 3 (segment_of s p) * s ≡ segment_of s p * s = three_segments (segment_of s p) s in
    let time : segment_of s p * s + p.column % s ≡ time_of s p = time_is s p in
    let at : time_of s (at_time s l (first_of s p + n)) ≡ first_of s p + n = time_at s l (first_of s p + n) in
    let within : n < min 3 (segment_of s p) * s + (if own then p.column % s else 0) = omega (arith, below) in
    record {
      column_inside = mod-lt (first_of s p + n) (omega arith);
      lane_inside = inside;
      earlier = rw at (omega (arith, stretch, time, within, own_least own (p.column % s)));
      recent = rw at (omega arith);
      finished = λ other.
          let elsewhere : own ≡ false = sym same ∙ ne_eqb l p.lane other in
          let early = rw elsewhere at within in
          rw at (omega (arith, stretch, early));
    }

pub reference_before : (s lanes : ℕ) (p : Place) (j1 j2 : ℕ) → 2 ≤ s → IsComputed s lanes p
    → IsBefore s lanes p (reference_place s lanes p j1 j2)
reference_before s lanes p j1 j2 some computed =
    let l = reference_lane s lanes p j2 in
    let n = count_of s p (l == p.lane) in
    rw (reference_is s lanes p j1 j2 some computed)
    (before s lanes p l (pick n j1) (l == p.lane) some computed (lane_inside s lanes p j2 computed.lane_inside) refl
    (pick_below n j1 (count_some s lanes p j2 some computed)))

spread : (a b s : ℕ) → (4 * a + b) * s ≡ a * (4 * s) + b * s
spread a b s = omega arith

pub start_later : (r u s : ℕ) → 0 < r → 0 < s → (u + 1) % 4 * s ≡ (4 * r + u - 3) * s % (4 * s)
start_later r u s later some =
    let segments : 4 * r + u - 3 ≡ 4 * (r - 1 + (u + 1) / 4) + (u + 1) % 4 = omega arith in
    let part : (u + 1) % 4 * s < 4 * s = mul-lt-mul_of_pos_right (omega arith) some in
    rw (segments, spread (r - 1 + (u + 1) / 4) ((u + 1) % 4) s) (sym (mod-mul-add (r - 1 + (u + 1) / 4) (4 * s) ((u + 1) % 4 * s) part))

-- lane and column of the place that the words name, with slice and offset for the column
column_is : (s lanes : ℕ) (p : Place) (j1 j2 slice offset : ℕ) → 2 ≤ s → IsComputed s lanes p
    → slice ≡ p.column / s → offset ≡ p.column % s
    → let l = if 4 * p.pass + slice == 0 then p.lane else j2 % lanes in
    (((4 * p.pass + slice - 3) * s % (4 * s) + pick (reference_count s (4 * p.pass + slice) offset (l == p.lane)) j1) % (4 * s)
    ≡ (reference_place s lanes p j1 j2).column)
    × (l ≡ (reference_place s lanes p j1 j2).lane)
column_is s lanes p j1 j2 slice offset some computed slice_is offset_is =
    let l = reference_lane s lanes p j2 in
    rw (slice_is, offset_is, reference_is s lanes p j1 j2 some computed)
    (mod-add-mod (first_of s p) (4 * s) (pick (count_of s p (l == p.lane)) j1), refl)

-- lane and column of the place that the words name at a position
pub column_of : (s lanes : ℕ) (at : Position) (j1 j2 : ℕ) → 2 ≤ s → IsComputed s lanes (place_of s at) → at.offset < s
    → let l = if 4 * at.pass + at.slice == 0 then at.lane else j2 % lanes in
    (((4 * at.pass + at.slice - 3) * s % (4 * s) + pick (reference_count s (4 * at.pass + at.slice) at.offset (l == at.lane)) j1) % (4 * s)
    ≡ (reference_place s lanes (place_of s at) j1 j2).column)
    × (l ≡ (reference_place s lanes (place_of s at) j1 j2).lane)
column_of s lanes at j1 j2 some computed inside =
    column_is s lanes (place_of s at) j1 j2 at.slice at.offset some computed (sym (div-mul-add at.slice s at.offset inside))
    (sym (mod-mul-add at.slice s at.offset inside))
