use Rattle.std.proofs.Common.{ap, ◌∙◌}
use Rattle.cred_many.specs.Served.{done}
use Rattle.cred_many.proofs.{Serving.answered, Telling.quick_counted}
use Rattle.std.proofs.Common.{subst}
use Rattle.cred_many.specs.Scribe.{IsQuick}
use Rattle.cred_many.proofs.Serving.{adds_answer}
use Rattle.cred_many.proofs.scribe.Scribe.answer_at_once.Goals as goal

pub invariant_of-self-clause-history : goal.invariant_of-self-clause-history
invariant_of-self-clause-history g c = answered _ g.J.ServiceId.service _ _ (g.K.Host.book c.args.self.now.keeper) _ c.args.line _ _ c.args.place _ _ _ _ _ _ _ c.requires.ready c.answer.ensures.came c.answer.ensures.closed c.answer.ensures.told c.args.self.now.history
    (c.in-Ok.ensures.book ∙ ap (λ a. (done g.K.Host.capacity (g.K.Host.book c.args.self.now.keeper) a).1) c.requires.asked)
    (c.bytes.ensures ∙ c.in-Ok.ensures.answer ∙ ap (λ a. (done g.K.Host.capacity (g.K.Host.book c.args.self.now.keeper) a).0) c.requires.asked)
    (quick_counted _ _ _ _ c.requires.asked)

pub returns-in-Ok-clause-adds : goal.returns-in-Ok-clause-adds
returns-in-Ok-clause-adds g c = adds_answer _ g.J.ServiceId.service _ _ (g.K.Host.book c.args.self.now.keeper) _ c.args.line _ _ c.args.place _ _ _ _ _ _ _ c.requires.ready c.answer.ensures.came c.answer.ensures.closed c.answer.ensures.told IsQuick (subst IsQuick c.requires.asked tt)
    (c.in-Ok.ensures.book ∙ ap (λ a. (done g.K.Host.capacity (g.K.Host.book c.args.self.now.keeper) a).1) c.requires.asked)
    (c.bytes.ensures ∙ c.in-Ok.ensures.answer ∙ ap (λ a. (done g.K.Host.capacity (g.K.Host.book c.args.self.now.keeper) a).0) c.requires.asked)
    (quick_counted _ _ _ _ c.requires.asked)

pub returns-in-Err-clause-adds : goal.returns-in-Err-clause-adds
returns-in-Err-clause-adds g c = rw c.in-Err.ensures.refused at c.refuse.ensures.adds

pub invariant_of-self-in-Err-clause-history : goal.invariant_of-self-in-Err-clause-history
invariant_of-self-in-Err-clause-history g c = rw c.in-Err.ensures.refused c.args.self.now.history
