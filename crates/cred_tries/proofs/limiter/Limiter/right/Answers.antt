use Rattle.std.proofs.Common.{ap, sym, ◌∙◌}
use Rattle.cred_tries.specs.Limits.{seen}
use Rattle.cred_tries.proofs.Cleared.{clear_right, limits_of}
use Rattle.cred_tries.proofs.limiter.Limiter.right.Goals as goal

pub returns-then-is_clear : goal.returns-then-is_clear
returns-then-is_clear c =
    ap (λ clock. limits_of c.self.inside.limit clock c.self.inside.counts) c.after-self-inside.ensures
    ∙ ap (λ l. seen l c.args.now) c.self.view_is
    ∙ clear_right c.args.self.now c.args.name.now c.args.now (sym c.is_clear.ensures ∙ c.if-is_clear.true) c.requires
