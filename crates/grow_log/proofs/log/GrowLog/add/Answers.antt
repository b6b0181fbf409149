use Rattle.std.proofs.Common.{◌≡◌, ◌∷◌, ◌++◌, [], length, Some, subst, sym, ◌∙◌, ap, arith, length-append}
use Rattle.grow_log.specs.Links.{entries_of, first_place, link, place_after}
use Rattle.grow_log.proofs.{Adding.fills_moves, Links.entries_snoc, Links.place_snoc}
use Rattle.grow_log.proofs.log.GrowLog.add.Goals as goal

pub compare_exchange-requires : goal.compare_exchange-requires
compare_exchange-requires g c =
    let h = c.self.invariant.head_of_log in
    let offer = c.plain-offer.ensures in (
      ap (λ w. w.tracked) h,
      ap (λ s. s.book) c.again-seen.ensures ∙ (c.self.invariant.seen_of_log ∙ sym (ap (λ w. w.book) h)),
      c.self.invariant.pen_of_log ∙ sym (ap (λ w. w.book) h),
      offer.0,
      rw (ap (λ w. w.key) h, offer.3, c.again-seen.ensures) (fills_moves c.self.inside.seen.log c.plain-offer.result.ask c.self.inside.pen.nib c.self.invariant.pen_at_end),
    )

pub of-requires-clause-length : goal.of-requires-clause-length
of-requires-clause-length g c =
    let before = c.self.inside.beginning in
    let new = c.args.entry.now in
    let grown : c.again-2.result.log ≡ c.self.inside.seen.log ++ link (Some new) c.make_place-next.result.nib.key ∷ [] = cc (ap (λ s. s.log) c.again-2.ensures, c.compare_exchange.ensures.7, ap (λ s. s.log) c.again-seen.ensures, c.plain-offer.ensures.1) in
    let entries : entries_of c.again-2.result.log ≡ before ++ new ∷ [] = ap entries_of grown ∙ (entries_snoc c.self.inside.seen.log new c.make_place-next.result.nib.key ∙ ap (λ l. l ++ new ∷ []) (sym c.self.invariant.beginning_is_whole)) in
    omega (arith, c.len.ensures.length, ap length entries, length-append before (new ∷ []))

pub of-requires-clause-holds : goal.of-requires-clause-holds
of-requires-clause-holds g c =
    let before = c.self.inside.beginning in
    let new = c.args.entry.now in
    let grown : c.again-2.result.log ≡ c.self.inside.seen.log ++ link (Some new) c.make_place-next.result.nib.key ∷ [] = cc (ap (λ s. s.log) c.again-2.ensures, c.compare_exchange.ensures.7, ap (λ s. s.log) c.again-seen.ensures, c.plain-offer.ensures.1) in
    let entries : entries_of c.again-2.result.log ≡ before ++ new ∷ [] = ap entries_of grown ∙ (entries_snoc c.self.inside.seen.log new c.make_place-next.result.nib.key ∙ ap (λ l. l ++ new ∷ []) (sym c.self.invariant.beginning_is_whole)) in
    let goes_on : g.N.LogName.holds before → g.N.LogName.holds (before ++ new ∷ []) = rw c.self.view_is c.requires.holds in
    subst g.N.LogName.holds (sym entries) (goes_on c.len.ensures.holds)

pub invariant_of-self : goal.invariant_of-self
invariant_of-self g c =
    let links = c.self.inside.seen.log in
    let new = c.args.entry.now in
    let place = c.make_place-next in
    let grown : c.compare_exchange.new.seen.log ≡ links ++ link (Some new) place.result.nib.key ∷ [] = cc (c.compare_exchange.ensures.7, ap (λ s. s.log) c.again-seen.ensures, c.plain-offer.ensures.1) in
    record {
      head_of_log = c.self.invariant.head_of_log;
      pen_of_log = place.ensures.pen.0 ∙ (ap (λ s. s.book) c.again.ensures ∙ c.self.invariant.seen_of_log);
      pen_at_end = (place.ensures.pen.1, sym (ap (place_after first_place) grown ∙ place_snoc first_place links (link (Some new) place.result.nib.key)));
      seen_of_log = c.compare_exchange.ensures.0 ∙ (ap (λ s. s.book) c.again-seen.ensures ∙ c.self.invariant.seen_of_log);
      beginning_is_whole = c.of.ensures ∙ ap (λ s. entries_of s.log) c.again-2.ensures;
    }

pub returns : goal.returns
returns g c =
    let before = c.self.inside.beginning in
    let new = c.args.entry.now in
    let grown : c.again-2.result.log ≡ c.self.inside.seen.log ++ link (Some new) c.make_place-next.result.nib.key ∷ [] = cc (ap (λ s. s.log) c.again-2.ensures, c.compare_exchange.ensures.7, ap (λ s. s.log) c.again-seen.ensures, c.plain-offer.ensures.1) in
    let entries : entries_of c.again-2.result.log ≡ before ++ new ∷ [] = ap entries_of grown ∙ (entries_snoc c.self.inside.seen.log new c.make_place-next.result.nib.key ∙ ap (λ l. l ++ new ∷ []) (sym c.self.invariant.beginning_is_whole)) in
    rw (← c.self.view_is) (c.of.ensures ∙ entries)
