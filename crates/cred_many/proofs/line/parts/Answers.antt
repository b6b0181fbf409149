use Rattle.std.proofs.Common.{sym, map, rules, ◌∙◌}
use Rattle.cred_many.proofs.Lines.{long_read, short_read}
use Rattle.cred_many.proofs.line.parts.Goals as goal

pub returns-then-is_too_long-clause-tagged : goal.returns-then-is_too_long-clause-tagged
returns-then-is_too_long-clause-tagged c = c.untagged.ensures ∙ long_read c.args.drawn c.args.line.now (sym c.if-is_too_long.ensures)

pub returns-clause-tagged : goal.returns-clause-tagged
returns-clause-tagged c = short_read c.args.drawn c.args.line.now (map (λ s. s.now) c.deref.result.now) _ (sym c.if-is_too_long.ensures) (search rules) c.tagged.ensures.tagged
