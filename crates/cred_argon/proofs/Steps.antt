-- One block of a segment: the block that the code computes from the block before and the reference
-- is the cell.
use Rattle.std.proofs.Common.{◌≡◌, ◌≢◌, ℕ, ◌<◌, ◌≤◌, ◌+◌, ◌-◌, ◌*◌, ◌/◌, ◌%◌, ◌^◌, List, ◌++◌, length, slice_index_or, slice_set, Bool, true, false, Option, Some, None, if◌then◌else◌, slice_index, refl, ap, ap₂, sym, ◌∙◌, inl, inr, arith}
use Rattle.std.proofs.{lemmas.Nat.div-mul-add, lemmas.Nat.mod-mul-add, lemmas.Bool.cases_eq, lemmas.Bool.Decides.nat_tests}
use Rattle.std.proofs.lemmas.List.{get_or_append_left, get_or-append_right, set-append_right, get_or-set_same, get_or-set_other, length-append}
use Rattle.cred_argon.specs.{declared.block.Block.Block, declared.place.Place.Place, declared.turn.Turn.Turn, declared.position.Position.Position, declared.position.Reference.Reference}
use Rattle.cred_argon.specs.{Times.IsBefore, Parameters.Parameters, Parameters.segment_len, Compress.compress, Compress.xor_words}
use Rattle.cred_argon.specs.Places.{IsComputed, place_of, reference_place}
use Rattle.cred_argon.specs.Cells.{is_dependent, address_block, previous, older, word_by, compression_at, is_first, is_fresh, cell_by, cell}
use Rattle.cred_argon.specs.{Turns.place_in, Turns.position_in, Turns.DoneHolds, Turns.OwnHolds, declared.address.AddressBlock.AddressBlock}
use Rattle.cred_argon.specs.Addresses.{ServesOffset, word_from}
use Rattle.cred_argon.proofs.{Picks.reference_before, CellLaw.cell_is, CellLaw.later_pass}

not_first : (s lanes : ℕ) (p : Place) → IsComputed s lanes p → is_first p ≡ false
not_first s lanes p computed = grind (arith, nat_tests, computed.not_first)

equation : (a : Parameters) (h : List ℕ) (p : Place) → 2 ≤ segment_len a → IsComputed (segment_len a) a.lanes p → (fresh : Bool)
    → is_fresh a.version p.pass ≡ fresh
    → cell a h p ≡ (if fresh then compression_at a (cell a h) p else xor_words (cell a h (older p)) (compression_at a (cell a h) p))
unfolding cell_by
equation a h p some computed fresh same =
    cell_is a h p some (record { lane_inside = computed.lane_inside; column_inside = computed.column_inside })
    ∙ rw (not_first (segment_len a) a.lanes p computed, same) refl

-- the word that the code reads is the one that names the reference
word_is : (c : Turn) (h before : List ℕ) (addresses : Option AddressBlock) (l k : ℕ) → k < segment_len c.params
    → before ≡ cell c.params h (previous (segment_len c.params) (place_in c l k)) → ServesOffset c l k addresses
    → word_from addresses before (k % 128) ≡ word_by c.params (cell c.params h) (place_in c l k)
word_is c h before addresses l k inside before_is serves =
    let slice : (c.slice * segment_len c.params + k) / segment_len c.params ≡ c.slice = div-mul-add c.slice (segment_len c.params) k inside in
    let offset : (c.slice * segment_len c.params + k) % segment_len c.params ≡ k = mod-mul-add c.slice (segment_len c.params) k inside in
    rw (slice, offset) (go addresses serves)
  where
    go : (kept : Option AddressBlock) → ServesOffset c l k kept
        → word_from kept before (k % 128)
        ≡ (if is_dependent c.params.kind c.pass c.slice then slice_index (cell c.params h (previous (segment_len c.params) (place_in c l k))) 0
        else slice_index (address_block c.params c.pass l c.slice (k / 128 + 1)) (k % 128))
    go None same = rw same (ap (λ (x : List ℕ). slice_index x 0) before_is)
    go (Some kept) same = rw same.0 (ap (λ (x : List ℕ). slice_index x (k % 128)) same.1)

-- G of the block before and the reference, which the code computes at a position
pub mixed_is : (c : Turn) (h before other : List ℕ) (addresses : Option AddressBlock) (at : Position) (k w : ℕ) (there : Reference)
    → 2 ≤ segment_len c.params → IsComputed (segment_len c.params) c.params.lanes (place_in c at.lane k) → k < segment_len c.params
    → at ≡ position_in c at.lane k → before ≡ cell c.params h (previous (segment_len c.params) (place_in c at.lane k))
    → ServesOffset c at.lane k addresses → w ≡ word_from addresses before (at.offset % 128)
    → there.lane ≡ (reference_place (segment_len c.params) c.params.lanes (place_of (segment_len c.params) at) (w % 2 ^ 32) (w / 2 ^ 32)).lane
    → there.column ≡ (reference_place (segment_len c.params) c.params.lanes (place_of (segment_len c.params) at) (w % 2 ^ 32) (w / 2 ^ 32)).column
    → ((p : Place) → IsBefore (segment_len c.params) c.params.lanes (place_in c at.lane k) p → p.lane ≡ there.lane → p.column ≡ there.column
    → other ≡ cell c.params h p)
    → compress before other ≡ compression_at c.params (cell c.params h) (place_in c at.lane k)
mixed_is c h before other addresses at k w there some computed inside here before_is serves w_is lane column cells =
    let a = c.params in
    let s = segment_len a in
    let p = place_in c at.lane k in
    let place : place_of s at ≡ p = ap (place_of s) here in
    let offset : at.offset ≡ k = ap (λ (q : Position). q.offset) here in
    let word = (rw offset at w_is) ∙ word_is c h before addresses at.lane k inside before_is serves in
    ap₂ compress before_is
    (cells (reference_place s a.lanes p (w % 2 ^ 32) (w / 2 ^ 32)) (reference_before s a.lanes p (w % 2 ^ 32) (w / 2 ^ 32) some computed)
    (sym (lane ∙ ap (λ q. (reference_place s a.lanes q (w % 2 ^ 32) (w / 2 ^ 32)).lane) place))
    (sym (column ∙ ap (λ q. (reference_place s a.lanes q (w % 2 ^ 32) (w / 2 ^ 32)).column) place))
    ∙ ap (λ (v : ℕ). cell a h (reference_place s a.lanes p (v % 2 ^ 32) (v / 2 ^ 32))) word)

-- the block that replaces the old one, or is added to it, makes the cell
pub replaced_is : (a : Parameters) (h mixed out : List ℕ) (p : Place) → 2 ≤ segment_len a → IsComputed (segment_len a) a.lanes p
    → is_fresh a.version p.pass ≡ true → mixed ≡ compression_at a (cell a h) p → out ≡ mixed → out ≡ cell a h p
replaced_is a h mixed out p some computed fresh mixed_is made = made ∙ mixed_is ∙ sym (equation a h p some computed true fresh)

pub added_is : (a : Parameters) (h old mixed out : List ℕ) (p : Place) → 2 ≤ segment_len a → IsComputed (segment_len a) a.lanes p
    → is_fresh a.version p.pass ≡ false → (0 < p.pass → old ≡ cell a h (older p)) → mixed ≡ compression_at a (cell a h) p
    → out ≡ xor_words old mixed → out ≡ cell a h p
added_is a h old mixed out p some computed later old_is mixed_is made =
    made ∙ ap₂ xor_words (old_is (later_pass a.version p.pass later)) mixed_is ∙ sym (equation a h p some computed false later)

-- a segment whose blocks before k are done, once the block at k is computed from them
pub own_step : (h : List ℕ) (c : Turn) (l k : ℕ) (done rest : List Block) (made d : Block) → length done ≡ k → 0 < length rest
    → k < segment_len c.params → OwnHolds h c l k (done ++ rest)
    → (DoneHolds h c l done → (0 < c.pass → (slice_index_or rest 0 d).0 ≡ cell c.params h (older (place_in c l (length done))))
    → made.0 ≡ cell c.params h (place_in c l (length done)))
    → OwnHolds h c l (k + 1) (done ++ slice_set rest 0 made)
own_step h c l k done rest made d len some inside own step =
    let here : done ++ slice_set rest 0 made ≡ slice_set (done ++ rest) k made =
    let first : k - k ≡ 0 = omega arith in
    sym (rw first at (set-append_right done rest k k made len (omega arith))) in
    let fits : k < length (done ++ rest) = rw length-append (omega (arith, len, some)) in
    let made_is : made.0 ≡ cell c.params h (place_in c l k) = rw len at (step
    (λ i e below. ap (λ (b : Block). b.0) (sym (get_or_append_left done rest e i below)) ∙ own.new i e (omega (arith, below, len)))
    (λ later. ap (λ (b : Block). b.0) (old_at d) ∙ rw len (own.old k d (omega arith) inside later))) in
    rw here (record {
      new = λ i e below. elim (cases_eq i k) [
        | inl same ↦ rw (same, get_or-set_same (done ++ rest) k made e fits) made_is
        | inr other ↦ rw (get_or-set_other (done ++ rest) k i made e other) (own.new i e (omega (arith, below, other)))
      ];
      old = λ i e above below later.
          let other : i ≢ k = λ same. absurd (omega (arith, same, above)) in
          rw (get_or-set_other (done ++ rest) k i made e other) (own.old i e (omega arith) below later);
    })
  where
    old_at : (e : Block) → slice_index_or rest 0 e ≡ slice_index_or (done ++ rest) k e
    old_at e = let first : k - k ≡ 0 = omega arith in sym (rw first at (get_or-append_right done rest k k e len (omega arith)))
