-- The set of places that a place may refer to, as one stretch of a lane's time.
use Rattle.std.proofs.Common.{◌≡◌, ℕ, zero, suc, ◌<◌, ◌≤◌, ◌+◌, ◌-◌, ◌*◌, ◌/◌, ◌%◌, ◌++◌, Bool, true, false, min, map, filter, flat_map, nat_le, nat_lt, ◌==◌, ◌&&◌, ◌||◌, if◌then◌else◌, refl, ap, ap₂, sym, ◌∙◌, inl, inr, arith, zero-mul, add-mul}
use Rattle.std.proofs.Math.Nat.{mul-add-div, div-add-mod, mod-lt}
use Rattle.std.proofs.{lemmas.Nat.div-mul-add, lemmas.Nat.mod-mul-add, lemmas.Nat.le-div, lemmas.Nat.div_below, lemmas.Bool.cases_lt}
use Rattle.std.proofs.{lemmas.Bool.Decides.nat_tests, lemmas.List.map-append}
use Rattle.std.proofs.lemmas.List.FromFn.{length-map-range_with_len, take-map-range_with_len}
use Rattle.std.specs.List.{range_with_len}
use Rattle.cred_argon.specs.declared.place.Place.{Place}
use Rattle.cred_argon.specs.Places.{place, segment_of, lane_places, is_finished, without_last, reference_set}
use Rattle.cred_argon.specs.Times.{time_of, finished_count, reference_count}
use Rattle.cred_argon.proofs.Ranges.{range_append, map_range_same, filter_stretch}

-- the place of a lane at a time
abbrev pub at_time : ℕ → ℕ → ℕ → Place
at_time s l n = place (n / (4 * s)) l (n % (4 * s))

-- the time of the first place that p may refer to
abbrev pub first_of : ℕ → Place → ℕ
first_of s p = (segment_of s p - 3) * s

-- the number of places of a lane that are finished for p, and the number of those that it may refer
-- to
abbrev pub size_of : ℕ → Place → Bool → ℕ
size_of s p own = finished_count s (segment_of s p) (p.column % s) own

abbrev pub count_of : ℕ → Place → Bool → ℕ
count_of s p own = reference_count s (segment_of s p) (p.column % s) own

-- the places of a lane on n passes from pass k on, as times; q is the number of columns of a lane
abbrev at : ℕ → ℕ → ℕ → Place
at q l n = place (n / q) l (n % q)

passes_are : (q l k n : ℕ) → 0 < q
    → flat_map (λ r. map (λ j. place r l j) (range_with_len 0 q)) (range_with_len k n) ≡ map (at q l) (range_with_len (k * q) (n * q))
passes_are q l k zero some = rw (zero-mul q) refl
passes_are q l k (suc n) some =
    let length_is : suc n * q ≡ q + n * q = omega arith in
    let next : k * q + q ≡ (k + 1) * q = omega arith in
    let one : map (λ j. place k l j) (range_with_len 0 q) ≡ map (at q l) (range_with_len (k * q) q) =
    map_range_same (λ j. place k l j) (at q l) 0 (k * q) q (λ j h.
    let zero_add : 0 + j ≡ j = omega arith in
    rw (zero_add, div-mul-add k q j h, mod-mul-add k q j h) refl) in
    rw (length_is, range_append (k * q) q (n * q), map-append (at q l), next) (ap₂ (λ xs ys. xs ++ ys) one (passes_are q l (k + 1) n some))

lane_places_are : (s last l : ℕ) → 0 < s → lane_places s last l ≡ map (at_time s l) (range_with_len 0 ((last + 1) * (4 * s)))
lane_places_are s last l some = rw (zero-mul (4 * s)) at (passes_are (4 * s) l 0 (last + 1) (omega arith))

-- the segment at a time
segment_at : (s l n : ℕ) → 0 < s → segment_of s (at_time s l n) ≡ n / s
segment_at s l n some =
    let whole : 4 * s * (n / (4 * s)) + n % (4 * s) ≡ n = div-add-mod n (4 * s) in
    let shape : s * (4 * (n / (4 * s))) + n % (4 * s) ≡ n = omega (arith, whole) in
    sym (mul-add-div some (4 * (n / (4 * s))) (n % (4 * s))) ∙ ap (λ x. x / s) shape

-- the test of `is_finished` on numbers: g and v are segments, c and j columns
abbrev test_of : ℕ → ℕ → Bool → ℕ → ℕ → Bool
test_of g v own c j = (nat_le (g - 3) v && nat_lt v g) || (own && ((v == g) && nat_lt c j))

test_before : (g v : ℕ) (own : Bool) (c j : ℕ) → v < g - 3 → test_of g v own c j ≡ false
test_before g v own c j h = grind (arith, nat_tests)

test_within : (g v : ℕ) (own : Bool) (c j : ℕ) → g - 3 ≤ v → v < g → test_of g v own c j ≡ true
test_within g v own c j low high = grind (arith, nat_tests)

test_own : (g v c j : ℕ) → v ≡ g → c < j → test_of g v true c j ≡ true
test_own g v c j same h = grind (arith, nat_tests)

test_behind : (g v : ℕ) (own : Bool) (c j : ℕ) → g ≤ v → j ≤ c → test_of g v own c j ≡ false
test_behind g v own c j h k = grind (arith, nat_tests)

test_other : (g v c j : ℕ) → g ≤ v → test_of g v false c j ≡ false
test_other g v c j h = grind (arith, nat_tests)

-- the test at a time
test_at : (s : ℕ) (p : Place) (l n : ℕ) (own : Bool) → 0 < s → (l == p.lane) ≡ own
    → is_finished s p (at_time s l n) ≡ test_of (segment_of s p) (n / s) own (n % (4 * s)) p.column
test_at s p l n own some same =
    ap₂ (λ v b. test_of (segment_of s p) v b (n % (4 * s)) p.column) (segment_at s l n some) same

-- the stretches of time
pub three_segments : (g s : ℕ) → (g - 3) * s + min 3 g * s ≡ g * s
three_segments g s = sym (add-mul (g - 3) (min 3 g) s) ∙ ap (λ v. v * s) (omega arith)

-- the time of a place, by its segment
pub time_is : (s : ℕ) (p : Place) → segment_of s p * s + p.column % s ≡ time_of s p
time_is s p =
    let parts : s * (p.column / s) + p.column % s ≡ p.column = div-add-mod p.column s in
    omega (arith, parts)

-- a lane's own segment has no place after its last one
pub own_least : (own : Bool) (k : ℕ) → (if own then k else 0) ≤ k
own_least true k = omega arith
own_least false k = omega arith

test_late : (g v : ℕ) (own : Bool) (c j k n : ℕ) → n < (if own then k else 0) → v ≡ g → c < j → test_of g v own c j ≡ true
test_late g v true c j k n some same h = test_own g v c j same h
test_late g v false c j k n some same h = absurd (omega (arith, some))

test_after : (g v : ℕ) (own : Bool) (c j : ℕ) → g ≤ v → (own ≡ true → j ≤ c) → test_of g v own c j ≡ false
test_after g v true c j h behind = test_behind g v true c j h (behind refl)
test_after g v false c j h behind = test_other g v c j h

finished_are : (s : ℕ) (p : Place) (l : ℕ) (own : Bool) → 0 < s → p.column < 4 * s → (l == p.lane) ≡ own
    → filter (is_finished s p) (lane_places s p.pass l) ≡ map (at_time s l) (range_with_len (first_of s p) (size_of s p own))
finished_are s p l own some inside same =
    let g = segment_of s p in
    let x = first_of s p in
    let y = size_of s p own in
    let z = (p.pass + 1) * (4 * s) - (x + y) in
    let stretch : (g - 3) * s + min 3 g * s ≡ g * s = three_segments g s in
    let time : g * s + p.column % s ≡ p.pass * (4 * s) + p.column = time_is s p in
    let rest : p.column % s < s = mod-lt p.column some in
    let least : (if own then p.column % s else 0) ≤ p.column % s = own_least own (p.column % s) in
    let top : (p.pass + 1) * (4 * s) ≡ p.pass * (4 * s) + 4 * s = omega arith in
    let total : (p.pass + 1) * (4 * s) ≡ x + y + z = omega (arith, stretch, time, least, top, inside) in
    rw (lane_places_are s p.pass l some, total) (filter_stretch (is_finished s p) (at_time s l) x y z
    (λ n h. test_at s p l n own some same ∙ test_before g (n / s) own (n % (4 * s)) p.column (div_below n s (g - 3) some h))
    (λ n h. test_at s p l (x + n) own some same ∙ elim (cases_lt n (min 3 g * s)) [
      | inl early ↦ test_within g ((x + n) / s) own ((x + n) % (4 * s)) p.column
          (le-div (g - 3) (x + n) s some (omega arith)) (div_below (x + n) s g some (omega (arith, stretch, early)))
      | inr late ↦
          let e = n - min 3 g * s in
          let below : e < s = omega (arith, h, late, least, rest) in
          let place_in : x + n ≡ g * s + e = omega (arith, stretch, late) in
          let place_of : x + n ≡ p.pass * (4 * s) + (p.column - p.column % s + e) = omega (arith, stretch, late, time, h) in
          let column_below : p.column - p.column % s + e < 4 * s = omega (arith, h, late, least, inside, time) in
          let column_is : (x + n) % (4 * s) ≡ p.column - p.column % s + e = ap (λ t. t % (4 * s)) place_of ∙ mod-mul-add p.pass (4 * s) (p.column - p.column % s + e) column_below in
          test_late g ((x + n) / s) own ((x + n) % (4 * s)) p.column (p.column % s) e (omega (arith, h, late))
          (ap (λ t. t / s) place_in ∙ div-mul-add g s e below) (rw column_is (omega (arith, h, late, least, time)))
    ])
    (λ n h. test_at s p l (x + y + n) own some same
    ∙ test_after g ((x + y + n) / s) own ((x + y + n) % (4 * s)) p.column (le-div g (x + y + n) s some (omega (arith, stretch))) (λ is.
    let whole : y ≡ min 3 g * s + p.column % s = rw is refl in
    let place_of : x + y + n ≡ p.pass * (4 * s) + (p.column + n) = omega (arith, whole, stretch, time) in
    let column_below : p.column + n < 4 * s = omega (arith, total, top, place_of, h) in
    let column_is : (x + y + n) % (4 * s) ≡ p.column + n = ap (λ t. t % (4 * s)) place_of ∙ mod-mul-add p.pass (4 * s) (p.column + n) column_below in
    rw column_is (omega arith))))

less_last : (f : ℕ → Place) (a n : ℕ) (test : Bool)
    → (if test then without_last (map f (range_with_len a n)) else map f (range_with_len a n))
    ≡ map f (range_with_len a (n - (if test then 1 else 0)))
less_last f a n true = rw (length-map-range_with_len f a n) (take-map-range_with_len f a n (n - 1) (omega arith))
less_last f a n false = let whole : n - 0 ≡ n = omega arith in rw whole refl

pub set_is : (s : ℕ) (p : Place) (l : ℕ) → 0 < s → p.column < 4 * s
    → reference_set s p l ≡ map (at_time s l) (range_with_len (first_of s p) (count_of s p (l == p.lane)))
unfolding reference_set
set_is s p l some inside =
    rw (finished_are s p l (l == p.lane) some inside refl) (less_last (at_time s l) (first_of s p) (size_of s p (l == p.lane)) ((l == p.lane) || (p.column % s == 0)))
