use Rattle.std.proofs.Common.{refl}
use Rattle.cred_many.proofs.Serving.{given_up}
use Rattle.cred_many.proofs.Serving.{adds_busy}
use Rattle.cred_many.proofs.scribe.Scribe.give_up_as_busy.Goals as goal

pub invariant_of-self-clause-history : goal.invariant_of-self-clause-history
invariant_of-self-clause-history g c =
    given_up _ g.J.ServiceId.service _ _ (g.K.Host.book c.args.self.now.keeper) _ c.args.line _ _ c.args.place _ _ _ _ _ _ _ c.requires.ready c.answer.ensures.came c.answer.ensures.closed c.answer.ensures.told c.args.self.now.history refl c.line.ensures c.requires.busy refl

pub returns-clause-adds : goal.returns-clause-adds
returns-clause-adds g c = adds_busy _ g.J.ServiceId.service _ _ (g.K.Host.book c.args.self.now.keeper) _ c.args.line _ _ c.args.place _ _ _ _ _ _ _ c.requires.ready c.answer.ensures.came c.answer.ensures.closed c.answer.ensures.told refl c.line.ensures c.requires.busy refl
