use Rattle.std.proofs.Common.{sym, ◌∙◌, ap}
use Rattle.grow_log.proofs.Adding.{begins_moves}
use Rattle.grow_log.proofs.log.GrowLog.open.Goals as goal

pub compare_exchange-found-requires : goal.compare_exchange-found-requires
compare_exchange-found-requires g c =
    let h = c.requires.head in
    let offer = c.plain-offer.ensures in
    let pen = c.no_pen-none.ensures in
    let book = c.make_place-next.ensures.seen.0 ∙ (c.requires.book ∙ sym (ap (λ w. w.book) h)) in (
      ap (λ w. w.tracked) h,
      book,
      pen.0 ∙ book,
      offer.0,
      rw (ap (λ w. w.key) h, pen.1, offer.3) (begins_moves c.make_place-next.new.seen.log c.plain-offer.result.ask),
    )
