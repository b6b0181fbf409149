-- The depth of the recursion plays no part: a cell meets its own equation.
use Rattle.std.proofs.Common.{◌≡◌, ℕ, zero, suc, ◌<◌, ◌≤◌, ◌+◌, ◌-◌, ◌*◌, ◌/◌, ◌%◌, ◌^◌, List, Bool, true, false, ◌==◌, if◌then◌else◌, slice_index, refl, ap, ap₂, ◌∙◌, inl, inr, true≢false, arith}
use Rattle.std.proofs.{lemmas.Nat.le-div, lemmas.Bool.cases_lt, lemmas.Bool.cond_both, lemmas.Bool.eqb-true, lemmas.Bool.Decides.nat_tests}
use Rattle.cred_argon.specs.{declared.kind.Version.Version, declared.kind.Version.TheVariants.V10, declared.kind.Version.TheVariants.V13}
use Rattle.cred_argon.specs.{declared.place.Place.Place, Parameters.Parameters, Parameters.IsUpTo, Parameters.segment_len}
use Rattle.cred_argon.specs.{Compress.compress, Compress.xor_words, Places.IsPlace, Places.IsComputed, Places.reference_place, Times.time_of}
use Rattle.cred_argon.specs.Cells.{first_cell, is_dependent, address_word, previous, older, word_by, reference_by, compression_at, is_first, is_fresh, cell_by, cell_within, cell}
use Rattle.cred_argon.proofs.Picks.{reference_before}

pub segment_some : (most : ℕ) (a : Parameters) → IsUpTo most a → 2 ≤ segment_len a
segment_some most a ok = le-div 2 a.memory (4 * a.lanes) (omega (arith, ok.some_lane)) (omega (arith, ok.memory_at_least))

pass_before : (r q : ℕ) → 0 < r → r * q ≡ (r - 1) * q + q
pass_before zero q some = absurd (omega arith)
pass_before (suc r) q some = let less : suc r - 1 ≡ r = omega arith in rw less (omega arith)

-- a block that isn't a first block is computed from others
pub computed_of : (s lanes : ℕ) (p : Place) → IsPlace s lanes p → is_first p ≡ false → IsComputed s lanes p
computed_of s lanes p inside same = record {
  lane_inside = inside.lane_inside;
  column_inside = inside.column_inside;
  not_first = λ start. grind (arith, nat_tests, same, start);
}

pub later_pass : (v : Version) (pass : ℕ) → is_fresh v pass ≡ false → 0 < pass
later_pass V10 pass same = absurd (true≢false same)
later_pass V13 pass same = grind (arith, nat_tests, same)

-- earlier places of the memory
abbrev pub IsEarlier : Parameters → Place → Place → Type 0
IsEarlier a p c = IsPlace (segment_len a) a.lanes c × (time_of (segment_len a) c < time_of (segment_len a) p)

pub previous_earlier : (a : Parameters) (p : Place) → IsComputed (segment_len a) a.lanes p → IsEarlier a p (previous (segment_len a) p)
previous_earlier a p computed =
    cond_both (p.column == 0) _ _ (IsEarlier a p) (λ same.
    let start : p.column ≡ 0 = eqb-true p.column 0 same in
    let some : 0 < segment_len a = omega (arith, computed.column_inside) in
    let later : 0 < p.pass = elim (cases_lt 0 p.pass) [ inl h ↦ h | inr h ↦ absurd (omega (arith, start, computed.not_first (omega arith))) ] in
    let back : p.pass * (4 * segment_len a) ≡ (p.pass - 1) * (4 * segment_len a) + 4 * segment_len a = pass_before p.pass (4 * segment_len a) later in
    (record { lane_inside = computed.lane_inside; column_inside = omega (arith, some) }, omega (arith, back, some, start))) (λ same.
    let some : 0 < p.column = grind (arith, nat_tests, same) in
    (record { lane_inside = computed.lane_inside; column_inside = omega (arith, computed.column_inside) }, omega (arith, some)))

pub reference_earlier : (a : Parameters) (p : Place) (w : ℕ) → 2 ≤ segment_len a → IsComputed (segment_len a) a.lanes p
    → IsEarlier a p (reference_place (segment_len a) a.lanes p (w % 2 ^ 32) (w / 2 ^ 32))
reference_earlier a p w some computed =
    let before = reference_before (segment_len a) a.lanes p (w % 2 ^ 32) (w / 2 ^ 32) some computed in
    (record { lane_inside = before.lane_inside; column_inside = before.column_inside }, before.earlier)

pub older_earlier : (a : Parameters) (p : Place) → IsPlace (segment_len a) a.lanes p → 0 < p.pass → IsEarlier a p (older p)
older_earlier a p inside later =
    let some : 0 < 4 * segment_len a = omega (arith, inside.column_inside) in
    let back : p.pass * (4 * segment_len a) ≡ (p.pass - 1) * (4 * segment_len a) + 4 * segment_len a = pass_before p.pass (4 * segment_len a) later in
    (record { lane_inside = inside.lane_inside; column_inside = inside.column_inside }, omega (arith, back, some))

-- two functions that give cells, and agree on the earlier places
abbrev Agree : Parameters → Place → (Place → List ℕ) → (Place → List ℕ) → Type 0
Agree a p f g = (c : Place) → IsPlace (segment_len a) a.lanes c → time_of (segment_len a) c < time_of (segment_len a) p → f c ≡ g c

mixed_agree : (a : Parameters) (p : Place) (f g : Place → List ℕ) → 2 ≤ segment_len a → IsComputed (segment_len a) a.lanes p
    → Agree a p f g → compression_at a f p ≡ compression_at a g p
mixed_agree a p f g some computed agree =
    let before = previous_earlier a p computed in
    let same_before : f (previous (segment_len a) p) ≡ g (previous (segment_len a) p) = agree (previous (segment_len a) p) before.0 before.1 in
    let same_word : word_by a f p ≡ word_by a g p =
    ap (λ (x : List ℕ). if is_dependent a.kind p.pass (p.column / segment_len a) then slice_index x 0 else address_word a p) same_before in
    let there = reference_earlier a p (word_by a f p) some computed in
    let same_there : f (reference_by a f p) ≡ g (reference_by a f p) = agree (reference_by a f p) there.0 there.1 in
    let same_place : g (reference_by a f p) ≡ g (reference_by a g p) =
    ap (λ (w : ℕ). g (reference_place (segment_len a) a.lanes p (w % 2 ^ 32) (w / 2 ^ 32))) same_word in
    ap₂ compress same_before (same_there ∙ same_place)

cell_by_agree : (a : Parameters) (h : List ℕ) (p : Place) (f g : Place → List ℕ) → 2 ≤ segment_len a → IsPlace (segment_len a) a.lanes p
    → Agree a p f g → cell_by a h f p ≡ cell_by a h g p
unfolding cell_by
cell_by_agree a h p f g some inside agree = go (is_first p) refl
  where
    fresh : (b : Bool) → is_fresh a.version p.pass ≡ b → IsComputed (segment_len a) a.lanes p
        → (if b then compression_at a f p else xor_words (f (older p)) (compression_at a f p)) ≡ (if b then compression_at a g p else xor_words (g (older p)) (compression_at a g p))
    fresh true same computed = mixed_agree a p f g some computed agree
    fresh false same computed =
        let old = older_earlier a p inside (later_pass a.version p.pass same) in
        ap₂ xor_words (agree (older p) old.0 old.1) (mixed_agree a p f g some computed agree)

    go : (b : Bool) → is_first p ≡ b
        → (if b then first_cell h p.lane p.column else (if is_fresh a.version p.pass then compression_at a f p else xor_words (f (older p)) (compression_at a f p)))
        ≡ (if b then first_cell h p.lane p.column else (if is_fresh a.version p.pass then compression_at a g p else xor_words (g (older p)) (compression_at a g p)))
    go true same = refl
    go false same = fresh (is_fresh a.version p.pass) refl (computed_of (segment_len a) a.lanes p inside same)

cell_within_same : (a : Parameters) (h : List ℕ) → 2 ≤ segment_len a → (m n : ℕ) (p : Place) → IsPlace (segment_len a) a.lanes p
    → time_of (segment_len a) p < m → time_of (segment_len a) p < n → cell_within a h m p ≡ cell_within a h n p
unfolding cell_within
cell_within_same a h some zero n p inside hm hn = absurd (omega (arith, hm))
cell_within_same a h some (suc m) zero p inside hm hn = absurd (omega (arith, hn))
cell_within_same a h some (suc m) (suc n) p inside hm hn =
    cell_by_agree a h p (cell_within a h m) (cell_within a h n) some inside
    (λ c in_memory earlier. cell_within_same a h some m n c in_memory (omega (arith, hm, earlier)) (omega (arith, hn, earlier)))

pub cell_is : (a : Parameters) (h : List ℕ) (p : Place) → 2 ≤ segment_len a → IsPlace (segment_len a) a.lanes p
    → cell a h p ≡ cell_by a h (cell a h) p
unfolding cell cell_within
cell_is a h p some inside =
    cell_by_agree a h p (cell_within a h (time_of (segment_len a) p)) (cell a h) some inside
    (λ c in_memory earlier. cell_within_same a h some (time_of (segment_len a) p) (suc (time_of (segment_len a) c)) c in_memory earlier (omega arith))
