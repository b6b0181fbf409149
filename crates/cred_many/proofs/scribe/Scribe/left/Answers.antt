use Rattle.std.proofs.{Common.false, Common.option_map, Common.unwrap_or, Math.Logic.∥∥₁_map₂}
use Rattle.cred_many.proofs.Serving.{ended}
use Rattle.cred_many.proofs.scribe.Scribe.left.Goals as goal

pub returns-clause-served : goal.returns-clause-served
returns-clause-served g c =
    let source = unwrap_or (option_map g.S.Source.failed c.args.source) false in
    rw (c.or.ensures, c.passed.ensures) (∥∥₁_map₂ c.args.self.history (c.args.self.cause source) (λ h was. ended _ _ _ _ _ _ _ source _ _ _ c.args.why c.requires.idle h was c.requires.cause))
