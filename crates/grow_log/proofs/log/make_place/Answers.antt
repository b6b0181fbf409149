use Rattle.std.proofs.Common.{sym, ◌∙◌, ap}
use Rattle.grow_log.proofs.Adding.{reserves_moves}
use Rattle.grow_log.proofs.log.make_place.Goals as goal

pub compare_exchange-requires : goal.compare_exchange-requires
compare_exchange-requires g c =
    let h = c.requires.head in
    let offer = c.plain-offer.ensures in
    let pen = c.no_pen-pen.ensures in (
      ap (λ w. w.tracked) h,
      sym (ap (λ w. w.book) h),
      pen.0 ∙ sym (ap (λ w. w.book) h),
      offer.0,
      rw (ap (λ w. w.key) h, pen.1, offer.3) (reserves_moves c.args.seen.now.log c.plain-offer.result.ask),
    )
