use Rattle.std.proofs.Common.{◌≡◌, subst, sym, ◌∙◌, ap}
use mathlib.Core.List.{IsPrefix}
use Rattle.grow_log.specs.Links.{entries_of}
use Rattle.grow_log.proofs.{Adding.looks_moves, Links.entries_prefix}
use Rattle.grow_log.proofs.log.GrowLog.covers_trace.Goals as goal

pub compare_exchange-requires : goal.compare_exchange-requires
compare_exchange-requires g c =
    let h = c.self.invariant.head_of_log in
    let offer = c.plain-offer.ensures in (
      ap (λ w. w.tracked) h,
      c.learn.ensures.0 ∙ (ap (λ s. s.book) c.again-seen.ensures ∙ (c.self.invariant.seen_of_log ∙ sym (ap (λ w. w.book) h))),
      c.self.invariant.pen_of_log ∙ sym (ap (λ w. w.book) h),
      offer.0,
      rw (ap (λ w. w.key) h, offer.3) (looks_moves c.learn.new.self.log c.plain-offer.result.ask c.self.inside.pen.nib c.self.invariant.pen_at_end.0),
    )

pub returns-clause-begins : goal.returns-clause-begins
returns-clause-begins g c =
    let both = c.learn.new.self.log in
    let links = c.self.inside.seen.log in
    let this : IsPrefix links both = subst (λ l. IsPrefix l both) (ap (λ s. s.log) c.again-seen.ensures) c.learn.ensures.2 in
    let whole : links ≡ both = c.compare_exchange.ensures.7.1 links this c.self.invariant.pen_at_end.1 in
    let entries : entries_of both ≡ c.self.inside.beginning = ap entries_of (sym whole) ∙ sym c.self.invariant.beginning_is_whole in
    subst (λ l. IsPrefix l c.self.inside.beginning) c.seen.ensures.entries
    (subst (λ l. IsPrefix (entries_of c.seen.result.log) l) entries (entries_prefix _ both c.learn.ensures.3))
