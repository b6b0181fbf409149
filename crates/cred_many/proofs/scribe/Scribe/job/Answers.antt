use Rattle.std.proofs.Common.{arith, sym, ap, option_map, unwrap_or, [], ◌∙◌}
use Rattle.cred_book.specs.Works.{name_of}
use Rattle.cred_many.specs.Served.{record_at}
use Rattle.cred_many.proofs.{Seen.looked_ready, Seen.looked_worn, Serving.looked, Turns.closed_looked}
use Rattle.cred_many.proofs.{Adding.none_one, Adding.none_then_one, Serving.none_looked}
use Rattle.cred_many.proofs.scribe.Scribe.job.Goals as goal

pub invariant_of-self-clause-history : goal.invariant_of-self-clause-history
invariant_of-self-clause-history g c = looked _ _ _ (g.K.Host.book c.args.self.now.keeper) _ _ _ _ _ c.args.place _ _ _ c.look-changes.ensures (c.copy.ensures ∙ c.ticket_of-ticket.ensures.copy ∙ ap (record_at (g.K.Host.book c.args.self.now.keeper)) (sym c.name.ensures)) c.args.self.now.history

pub give_up_as_busy-requires-clause-ready : goal.give_up_as_busy-requires-clause-ready
give_up_as_busy-requires-clause-ready g c = looked_ready _ _ _ _ _ _ _ _ c.look-changes.ensures c.requires.ready

pub give_up_as_busy-requires-clause-busy : goal.give_up_as_busy-requires-clause-busy
give_up_as_busy-requires-clause-busy g c =
    looked_worn _ _ _ _ _ _ c.args.line.operation c.look-changes.ensures (c.name.ensures ∙ sym (ap (λ r. unwrap_or (option_map name_of r) []) c.requires.asked)) (omega (arith, c.if-changes-ge-TRIES.true))

pub returns-then-changes-ge-TRIES-clause-closed : goal.returns-then-changes-ge-TRIES-clause-closed
returns-then-changes-ge-TRIES-clause-closed g c = λ none. closed_looked _ _ _ _ _ _ _ c.look-changes.ensures c.give_up_as_busy.ensures.closed

pub returns-clause-looked : goal.returns-clause-looked
returns-clause-looked g c =
    (c.look-changes.result, omega (arith, c.if-changes-ge-TRIES.false), rw (c.copy.ensures, c.ticket_of-ticket.ensures.copy, c.name.ensures) at c.look-changes.ensures)

pub returns-then-changes-ge-TRIES-clause-adds : goal.returns-then-changes-ge-TRIES-clause-adds
returns-then-changes-ge-TRIES-clause-adds g c = none_then_one _ _ _ _ _ (none_looked _ _ _ (g.K.Host.book c.args.self.now.keeper) _ _ _ _ _ c.args.place _ _ _ c.look-changes.ensures (c.copy.ensures ∙ c.ticket_of-ticket.ensures.copy ∙ ap (record_at (g.K.Host.book c.args.self.now.keeper)) (sym c.name.ensures))) c.give_up_as_busy.ensures.adds

pub returns-clause-adds : goal.returns-clause-adds
returns-clause-adds g c = none_one _ _ _ _ (none_looked _ _ _ (g.K.Host.book c.args.self.now.keeper) _ _ _ _ _ c.args.place _ _ _ c.look-changes.ensures (c.copy.ensures ∙ c.ticket_of-ticket.ensures.copy ∙ ap (record_at (g.K.Host.book c.args.self.now.keeper)) (sym c.name.ensures)))
