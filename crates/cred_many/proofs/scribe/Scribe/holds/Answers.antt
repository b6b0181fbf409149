use Rattle.std.proofs.{Common.false, Math.Logic.∥∥₁_map₂}
use Rattle.cred_many.proofs.Serving.{stands}
use Rattle.cred_many.proofs.scribe.Scribe.holds.Goals as goal

pub returns : goal.returns
returns g c = ∥∥₁_map₂ c.args.self.now.history (c.args.self.now.cause false) (λ h cause. stands _ _ _ _ _ _ _ _ _ _ _ h cause)
