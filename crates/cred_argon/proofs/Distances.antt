-- The slices of the block before and of the block that a place refers to, among the four slices of
-- the memory.
use Rattle.std.proofs.Common.{◌≡◌, ℕ, zero, suc, ◌<◌, ◌≤◌, ◌+◌, ◌-◌, ◌*◌, ◌/◌, ◌%◌, false, ◌==◌, refl, ap, ap₂, sym, ◌∙◌, inl, inr, arith}
use Rattle.std.proofs.Math.Nat.{div-add-mod, mod-lt, mul-le-mul_right}
use Rattle.std.proofs.{lemmas.Nat.div-mul-add, lemmas.Nat.le-div, lemmas.Nat.div_below, lemmas.Nat.mul-add-lt, lemmas.Bool.cases_eq}
use Rattle.std.proofs.lemmas.Bool.Decides.{nat_tests}
use Rattle.cred_argon.specs.{declared.place.Place.Place, declared.turn.Turn.Turn, Parameters.segment_len, Places.place, Places.segment_of, Places.IsComputed}
use Rattle.cred_argon.specs.{Times.time_of, Times.IsBefore, Cells.previous, Turns.number, Turns.first_offset, Turns.place_in}
use Rattle.cred_argon.proofs.Sets.{time_is}

-- the place of an offset is computed from others
pub place_computed : (c : Turn) (l k : ℕ) → c.slice < 4 → l < c.params.lanes → k < segment_len c.params → 2 ≤ segment_len c.params
    → first_offset c ≤ k → IsComputed (segment_len c.params) c.params.lanes (place_in c l k)
place_computed c l k four lane inside some begun = record {
  lane_inside = lane;
  column_inside = omega (arith, mul-add-lt c.slice (segment_len c.params) k 4 four inside);
  not_first = λ start. go c.slice refl start;
}
  where
    go : (u : ℕ) → c.slice ≡ u → c.pass ≡ 0 → 2 ≤ c.slice * segment_len c.params + k
    go zero same start =
        let first : number c ≡ 0 = omega (arith, same, start) in
        let two : 2 ≤ k = rw first at begun in
        omega (arith, two)
    go (suc u) same start =
        let one : 1 * segment_len c.params ≤ c.slice * segment_len c.params = mul-le-mul_right (segment_len c.params) (omega (arith, same)) in
        omega (arith, one, some)

-- the block before the first of a segment is the last of the segment before
pub before_first : (r u s l : ℕ) → u < 4 → 2 ≤ s → 0 < 4 * r + u
    → place ((4 * r + u - 1) / 4) l ((4 * r + u - 1) % 4 * s + (s - 1)) ≡ previous s (place r l (u * s + 0))
before_first r zero s l four some later =
    let start : zero * s + 0 ≡ 0 = omega arith in
    let last_slice : (4 * r + zero - 1) % 4 ≡ 3 = omega (arith, later) in
    rw start (ap₂ (λ x y. place x l y) (omega (arith, later)) (rw last_slice (omega (arith, some))))
before_first r (suc u) s l four some later =
    let one : 1 * s ≤ suc u * s = mul-le-mul_right s (omega arith) in
    let inner : (suc u * s + 0 == 0) ≡ false = grind (arith, nat_tests, one, some) in
    let pass : (4 * r + suc u - 1) / 4 ≡ r = omega (arith, four) in
    let slice : (4 * r + suc u - 1) % 4 ≡ u = omega (arith, four) in
    rw (inner, pass, slice) (ap (λ y. place r l y) (omega (arith, some)))

-- the number of segments that a reference lies back; none back is the own lane's segment, before k
pub record IsDistance (r u s l k : ℕ) (there : Place) (back : ℕ) : Type 0 where
  pub number : 4 * there.pass + there.column / s + back ≡ 4 * r + u
  pub slice : there.column / s < 4
  pub offset : there.column % s < s
  pub column : there.column / s * s + there.column % s ≡ there.column
  pub own : back ≡ 0 → there.column % s < k
  pub own_lane : back ≡ 0 → there.lane ≡ l

pub distance_of : (r u s lanes l k : ℕ) (there : Place) → u < 4 → k < s → IsBefore s lanes (place r l (u * s + k)) there
    → IsDistance r u s l k there ((u + 4 - there.column / s) % 4)
distance_of r u s lanes l k there four inside before =
    let some : 0 < s = omega (arith, inside) in
    let segment : segment_of s (place r l (u * s + k)) ≡ 4 * r + u = ap (λ x. 4 * r + x) (div-mul-add u s k inside) in
    let time : segment_of s there * s + there.column % s ≡ time_of s there = time_is s there in
    let rest : there.column % s < s = mod-lt there.column some in
    let now : time_of s (place r l (u * s + k)) ≡ (4 * r + u) * s + k = omega arith in
    let there_in : time_of s there / s ≡ segment_of s there =
    ap (λ t. t / s) (sym time) ∙ div-mul-add (segment_of s there) s (there.column % s) rest in
    let recent : (4 * r + u - 3) * s ≤ time_of s there = rw segment at before.recent in
    let low : 4 * r + u - 3 ≤ segment_of s there = rw there_in at (le-div (4 * r + u - 3) (time_of s there) s some recent) in
    let top : (4 * r + u) * s + k < (4 * r + u + 1) * s = omega (arith, inside) in
    let high : segment_of s there < 4 * r + u + 1 =
    rw there_in at (div_below (time_of s there) s (4 * r + u + 1) some (omega (arith, before.earlier, now, top))) in
    let slice : there.column / s < 4 = div_below there.column s 4 some before.column_inside in
    let number : 4 * there.pass + there.column / s + (u + 4 - there.column / s) % 4 ≡ 4 * r + u = omega (arith, low, high, slice, four) in
    let parts : s * (there.column / s) + there.column % s ≡ there.column = div-add-mod there.column s in
    record {
      number = number;
      slice = slice;
      offset = rest;
      column = omega (arith, parts);
      own = λ same.
          let here : segment_of s there ≡ 4 * r + u = omega (arith, number, same) in
          let spread : segment_of s there * s ≡ (4 * r + u) * s = ap (λ x. x * s) here in
          omega (arith, before.earlier, now, time, spread);
      own_lane = λ same.
          let here : segment_of s there ≡ 4 * r + u = omega (arith, number, same) in
          let spread : segment_of s there * s ≡ (4 * r + u) * s = ap (λ x. x * s) here in
          elim (cases_eq there.lane l) [
            | inl e ↦ e
            | inr other ↦
                let early : time_of s there < (4 * r + u) * s = rw segment at (before.finished other) in
                absurd (omega (arith, early, time, spread))
          ];
    }

-- such a place, as the memory counts it
pub distance_place : (r u s l k : ℕ) (there : Place) (back : ℕ) → IsDistance r u s l k there back
    → place ((4 * r + u - back) / 4) there.lane ((4 * r + u - back) % 4 * s + there.column % s) ≡ there
distance_place r u s l k there back distance =
    let number : 4 * r + u - back ≡ 4 * there.pass + there.column / s = omega (arith, distance.number) in
    let pass : (4 * there.pass + there.column / s) / 4 ≡ there.pass = omega (arith, distance.slice) in
    let slice : (4 * there.pass + there.column / s) % 4 ≡ there.column / s = omega (arith, distance.slice) in
    rw (number, pass, slice, distance.column) refl

pub distance_own : (r u s l k : ℕ) (there : Place) (back : ℕ) → u < 4 → IsDistance r u s l k there back → back ≡ 0
    → place r l (u * s + there.column % s) ≡ there
distance_own r u s l k there back four distance same =
    let pass : r ≡ there.pass = omega (arith, distance.number, distance.slice, same, four) in
    let slice : u ≡ there.column / s = omega (arith, distance.number, distance.slice, same, four) in
    rw (pass, slice, distance.column, ← distance.own_lane same) refl

-- an empty segment that is to be worked isn't the first of all
pub begun_later : (c : Turn) (k : ℕ) → first_offset c ≤ k → k ≡ 0 → 0 < number c
begun_later c k begun none = grind (arith, nat_tests)
