use Rattle.std.proofs.Common.{◌≡◌, ◌<◌, ◌+◌, ◌∙◌, ap, sym, arith}
use Rattle.cred_argon.specs.{Parameters.segment_len, Places.place_of, Places.reference_place, Turns.place_in}
use Rattle.cred_argon.proofs.{Picks.reference_before, Distances.place_computed}
use Rattle.cred_argon.proofs.next_reference.NextReferencePrefetch.prefetch.Goals as goal

pub prefetch_reference-requires-clause-readable : goal.prefetch_reference-requires-clause-readable
prefetch_reference-requires-clause-readable g c =
    let self = c.args.self.now in
    let shared = self.shared.now.turn in
    let a = shared.params in
    let s = segment_len a in
    let at = c.position-position.result in
    let k = self.offset + 1 in
    let p = place_in shared self.lane k in
    let j1 = c.halves-j1.result.0 in
    let j2 = c.halves-j1.result.1 in
    let here : place_of s at ≡ p = ap (place_of s) c.position-position.ensures in
    let inside : k < s = omega (arith, c.if-self-segment_len.true, c.segment_len.ensures.value) in
    let computed = place_computed shared self.lane k c.requires.0.slice c.requires.2 inside c.requires.1 (omega (arith, c.requires.3)) in (
      reference_place s a.lanes p j1 j2,
      reference_before s a.lanes p j1 j2 c.requires.1 computed,
      sym (c.reference_from-reference.ensures.lane ∙ ap (λ q. (reference_place s a.lanes q j1 j2).lane) here),
      sym (c.reference_from-reference.ensures.column ∙ ap (λ q. (reference_place s a.lanes q j1 j2).column) here),
    )
