use Rattle.std.proofs.Common.{sym, ap, ◌++◌, ◌∙◌}
use Rattle.std.specs.FinMap as map
use Rattle.std.specs.Ordering.{is_lt}
use Rattle.cred_many.proofs.Listed.{all_written, enough, skipped, written}
use Rattle.cred_many.proofs.listing.push_names.Goals as goal

pub returns-then-left-eq0 : goal.returns-then-left-eq0
returns-then-left-eq0 c = enough c.args.from.now c.args.line.now.items c.loop-name.line.items c.args.most (map.entries c.args.accounts.now) c.loop-name.name-iterator c.loop-name.left c.loop-name.invariant c.if-left-eq0.true

pub loop-name-preserved-then-not-is_lt : goal.loop-name-preserved-then-not-is_lt
loop-name-preserved-then-not-is_lt c =
    written _ _ _ _ _ _ _ c.loop-name.invariant _ _ _ _ c.in-Some.ensures.steps (ap is_lt (sym c.cmp.ensures) ∙ sym c.if-not-is_lt.ensures) c.if-left-eq0.false
    c.in_ok-push.ensures.items (c.in_ok-extend_from_slice.ensures.items ∙ ap (λ t. c.push.new.self.items ++ t) c.bytes.ensures.value)

pub loop-name-preserved : goal.loop-name-preserved
loop-name-preserved c = skipped _ _ _ _ _ _ _ c.loop-name.invariant _ _ c.in-Some.ensures.steps (ap is_lt (sym c.cmp.ensures) ∙ sym c.if-not-is_lt.ensures)

pub returns : goal.returns
returns c = all_written c.args.from.now c.args.line.now.items c.loop-name.line.items c.args.most (map.entries c.args.accounts.now) c.loop-name.name-iterator c.loop-name.left c.loop-name.invariant c.in-None.ensures.steps.0
