use Rattle.std.proofs.Common.{◌≡◌, ◌+◌, ◌<◌, length, arith}
use Rattle.std.proofs.lemmas.List.{get_or_default, get_or-set_same}
use Rattle.cred_argon.specs.SegmentWork.{Works}
use Rattle.cred_argon.proofs.Neighbours.{both_held}
use Rattle.cred_argon.proofs.interleaved.work_from.Goals.{then-parts-at-eq1, else-parts-at-eq1}
use Rattle.cred_argon.proofs.interleaved.work_from.Goals as goal

pub returns-clause-works : goal.returns-clause-works
returns-clause-works g c i d above below inside = elim c.if-parts-at-eq1.branch [
  | then-parts-at-eq1 w ↦
      let parts = c.args.parts.now in
      let same : i ≡ c.args.at = omega (arith, w.if-parts-at-eq1.true, above, inside) in
      rw (w.parts-is, same, get_or-set_same parts c.args.at w.work.new.self d c.requires.at) (rw (get_or_default parts c.args.at w.index-parts-at.result d c.requires.at) at w.work.ensures)
  | else-parts-at-eq1 w ↦
      let parts = c.args.parts.now in
      let halves = w.split_at_mut-front.ensures in
      let here : c.args.at + 1 + 0 ≡ c.args.at + 1 = omega arith in
      let next : c.args.at + 1 < length parts = omega (arith, w.if-parts-at-eq1.false, c.requires.at) in
      rw w.parts-is (both_held (λ p q. Works c.args.shared.now p q) parts _ _ c.args.at w.work_interleaved.new.first w.work_interleaved.new.second d halves.front_len (omega (arith, halves.back_len, next))
      (rw (halves.by_index.0 c.args.at w.index-front-at.result (omega arith), get_or_default parts c.args.at w.index-front-at.result d c.requires.at) at w.work_interleaved.ensures.first)
      (rw (halves.by_index.1 0 w.index-back-0.result, here, get_or_default parts (c.args.at + 1) w.index-back-0.result d next) at w.work_interleaved.ensures.second)
      i above below)
]
