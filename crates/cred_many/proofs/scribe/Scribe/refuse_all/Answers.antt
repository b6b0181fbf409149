use Rattle.std.proofs.Common.{[], ◌∷◌, ap, refl, rules, sym, ◌∙◌}
use Rattle.std.proofs.lemmas.List.{map-append}
use Rattle.cred_book.specs.Works.{Task}
use Rattle.cred_many.specs.LineOperations.{Entry}
use Rattle.cred_many.proofs.Uses.{use_more}
use Rattle.cred_many.proofs.Adding.{quick_some, same_some, some_at, some_some}
use Rattle.cred_many.specs.Scribe.{IsNotSentAway, answered_by, passed_of}
use Rattle.cred_many.proofs.scribe.Scribe.refuse_all.Goals as goal

pub loop-hashed-init : goal.loop-hashed-init
loop-hashed-init g c = (refl, λ going. search rules, same_some _ IsNotSentAway _, refl)

pub loop-hashed-preserved : goal.loop-hashed-preserved
loop-hashed-preserved g c = (
  c.starve.ensures.same_tries ∙ c.loop-hashed.invariant.0,
  λ going.
      rw (map-append (λ (w : Entry × Task). w.0) c.loop-hashed.yielded (c.in-Some.hashed ∷ []))
      (use_more _ c.in-Some.hashed.0 _ _ _ (c.loop-hashed.invariant.1 (c.starve.ensures.going going)) (rw c.into_parts-line.ensures.line at (c.starve.ensures.turns going))),
  some_some _ (answered_by g.K.Host.capacity g.J.ServiceId.service g.K.Host.book g.W.Write.contents c.loop-hashed.self.keeper c.loop-hashed.self.output c.loop-hashed.self.came c.loop-hashed.self.tries) (answered_by g.K.Host.capacity g.J.ServiceId.service g.K.Host.book g.W.Write.contents c.starve.new.self.keeper c.starve.new.self.output c.starve.new.self.came c.starve.new.self.tries) IsNotSentAway _ c.loop-hashed.invariant.2
      (some_at _ (answered_by g.K.Host.capacity g.J.ServiceId.service g.K.Host.book g.W.Write.contents c.starve.new.self.keeper c.starve.new.self.output c.starve.new.self.came c.starve.new.self.tries) IsNotSentAway _ _ (ap passed_of (c.starve.ensures.same_tries ∙ c.loop-hashed.invariant.0)) (quick_some _ _ _ c.starve.ensures.adds)),
  c.starve.ensures.same_came ∙ c.loop-hashed.invariant.3,
)

pub returns-clause-same_tries : goal.returns-clause-same_tries
returns-clause-same_tries g c = c.loop-hashed.invariant.0

pub returns-clause-same_came : goal.returns-clause-same_came
returns-clause-same_came g c = c.loop-hashed.invariant.3

pub returns-clause-adds : goal.returns-clause-adds
returns-clause-adds g c = some_at _ (answered_by g.K.Host.capacity g.J.ServiceId.service g.K.Host.book g.W.Write.contents c.loop-hashed.self.keeper c.loop-hashed.self.output c.loop-hashed.self.came c.loop-hashed.self.tries) IsNotSentAway _ _ (ap passed_of (sym c.loop-hashed.invariant.0)) c.loop-hashed.invariant.2
