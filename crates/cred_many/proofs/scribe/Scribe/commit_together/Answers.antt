use Rattle.std.proofs.Common.{◌≡◌, None, ap, arith, length, map-id, refl, rules, sym, ◌∙◌}
use Rattle.std.proofs.lemmas.Iterator.Adapters.{YieldsList-from_vec}
use Rattle.std.proofs.lemmas.Iterator.Consumers.{YieldsList-end}
use Rattle.cred_many.proofs.Adding.{quick_some, same_some, some_at, some_some}
use Rattle.cred_many.specs.Scribe.{IsNotSentAway, answered_by, passed_of}
use Rattle.cred_many.proofs.{Groups.none_together, Uses.all_back, Uses.all_done, Uses.gathered_back, Uses.gathered_in, Uses.gathered_starved, Uses.none_gathered}
use Rattle.cred_many.proofs.scribe.Scribe.commit_together.Goals.{then-is_none+then-not-is_empty, else-is_none, else-is_none-via-then-is_none+else-not-is_empty, else-is_none-via-else-is_none}
use Rattle.cred_many.proofs.scribe.Scribe.commit_together.Goals as goal

pub loop-hashed-init : goal.loop-hashed-init
loop-hashed-init g c = rw (c.new-group.ensures.changed, c.new-group.ensures.works, c.new-group.ensures.text) (none_together _ _ _ _, refl, (λ going. (going, none_gathered _ _ _ _ refl)), same_some _ IsNotSentAway _, refl)

pub loop-hashed-preserved-in_default : goal.loop-hashed-preserved-in_default
loop-hashed-preserved-in_default g c =
    (c.in_default.ensures.group, c.loop-hashed.invariant.1, (λ going. let was = c.loop-hashed.invariant.2 going in (was.0, rw c.in_default.ensures.added (gathered_in c.loop-hashed.yielded _ _ c.in-Some.hashed _ _ was.1))), c.loop-hashed.invariant.3, c.loop-hashed.invariant.4)

pub loop-hashed-preserved-in-Err-push : goal.loop-hashed-preserved-in-Err-push
loop-hashed-preserved-in-Err-push g c = (
  rw (c.starve.ensures.book, c.starve.ensures.same_tries) c.in-Err.ensures.group,
  c.starve.ensures.same_tries ∙ c.loop-hashed.invariant.1,
  (λ going.
      let was = c.loop-hashed.invariant.2 (c.starve.ensures.going going) in
      let used = rw (c.into_parts-line.ensures.line, c.in-Err-push.ensures.value_returned, c.in-Err.ensures.back) at (c.starve.ensures.turns going) in
      (was.0, rw (c.in-Err-push.ensures.items, c.in-Err.ensures.same) (gathered_starved c.loop-hashed.yielded _ _ c.in-Some.hashed _ _ _ was.1 used))),
  some_some _ (answered_by g.K.Host.capacity g.J.ServiceId.service g.K.Host.book g.W.Write.contents c.loop-hashed.self.keeper c.loop-hashed.self.output c.loop-hashed.self.came c.loop-hashed.self.tries) (answered_by g.K.Host.capacity g.J.ServiceId.service g.K.Host.book g.W.Write.contents c.starve.new.self.keeper c.starve.new.self.output c.starve.new.self.came c.starve.new.self.tries) IsNotSentAway _ c.loop-hashed.invariant.3
      (some_at _ (answered_by g.K.Host.capacity g.J.ServiceId.service g.K.Host.book g.W.Write.contents c.starve.new.self.keeper c.starve.new.self.output c.starve.new.self.came c.starve.new.self.tries) IsNotSentAway _ _ (ap passed_of (c.starve.ensures.same_tries ∙ c.loop-hashed.invariant.1)) (quick_some _ _ _ c.starve.ensures.adds)),
  c.starve.ensures.same_came ∙ c.loop-hashed.invariant.4,
)

pub loop-hashed-preserved : goal.loop-hashed-preserved
loop-hashed-preserved g c = (
  c.in-Err.ensures.group,
  c.loop-hashed.invariant.1,
  (λ going.
      let was = c.loop-hashed.invariant.2 going in
      (was.0, rw (c.in_default-push.ensures.items, c.in-Err.ensures.back, c.in-Err.ensures.same) (gathered_back c.loop-hashed.yielded _ _ c.in-Some.hashed _ _ was.1))),
  c.loop-hashed.invariant.3,
  c.loop-hashed.invariant.4,
)

pub returns-clause-turns : goal.returns-clause-turns
returns-clause-turns g c =
    let end = YieldsList-end (YieldsList-from_vec {s = c.into_iter-hashed-iterator.result} c.args.works.items (search rules) (search rules)) c.loop-hashed.yielded c.loop-hashed.hashed-iterator c.loop-hashed.yielded_by c.next.result c.next.new.self c.in-None.is c.next.ensures.steps in
    let all : c.loop-hashed.yielded ≡ c.args.works.items = sym (map-id c.loop-hashed.yielded) ∙ end.0 in
    rw (← all) (elim c.if-is_none.branch [
      | then-is_none+then-not-is_empty w ↦ rw w.self-is (λ going.
          let was : c.loop-hashed.self.output.fault ≡ None = search rules in
          all_done c.loop-hashed.yielded _ _ _ _ _ (w.commit_group.ensures.turns going) (c.loop-hashed.invariant.2 was).1)
      | else-is_none w ↦ rw w.self-is (λ going.
          elim w.else-is_none.branch [
            | else-is_none-via-then-is_none+else-not-is_empty w' ↦
                let none : length c.loop-hashed.group.works.items ≡ 0 = search (rules, arith) in
                all_back c.loop-hashed.yielded _ _ _ _ none (c.loop-hashed.invariant.2 going).1
            | else-is_none-via-else-is_none w' ↦ absurd (search rules)
          ])
    ])

pub returns-clause-clock : goal.returns-clause-clock
returns-clause-clock g c = elim c.if-is_none.branch [
  | then-is_none+then-not-is_empty w ↦ rw w.self-is (w.commit_group.ensures.same_tries ∙ c.loop-hashed.invariant.1)
  | else-is_none w ↦ rw w.self-is c.loop-hashed.invariant.1
]

pub returns-clause-came : goal.returns-clause-came
returns-clause-came g c = elim c.if-is_none.branch [
  | then-is_none+then-not-is_empty w ↦ rw w.self-is (w.commit_group.ensures.same_came ∙ c.loop-hashed.invariant.4)
  | else-is_none w ↦ rw w.self-is c.loop-hashed.invariant.4
]

pub returns-clause-adds : goal.returns-clause-adds
returns-clause-adds g c = elim c.if-is_none.branch [
  | then-is_none+then-not-is_empty w ↦ rw w.self-is (some_some _ (answered_by g.K.Host.capacity g.J.ServiceId.service g.K.Host.book g.W.Write.contents c.loop-hashed.self.keeper c.loop-hashed.self.output c.loop-hashed.self.came c.loop-hashed.self.tries) (answered_by g.K.Host.capacity g.J.ServiceId.service g.K.Host.book g.W.Write.contents w.commit_group.new.self.keeper w.commit_group.new.self.output w.commit_group.new.self.came w.commit_group.new.self.tries) IsNotSentAway _ (some_at _ (answered_by g.K.Host.capacity g.J.ServiceId.service g.K.Host.book g.W.Write.contents c.loop-hashed.self.keeper c.loop-hashed.self.output c.loop-hashed.self.came c.loop-hashed.self.tries) IsNotSentAway _ _ (ap passed_of (sym (w.commit_group.ensures.same_tries ∙ c.loop-hashed.invariant.1))) c.loop-hashed.invariant.3) w.commit_group.ensures.adds)
  | else-is_none w ↦ rw w.self-is (some_at _ (answered_by g.K.Host.capacity g.J.ServiceId.service g.K.Host.book g.W.Write.contents c.loop-hashed.self.keeper c.loop-hashed.self.output c.loop-hashed.self.came c.loop-hashed.self.tries) IsNotSentAway _ _ (ap passed_of (sym c.loop-hashed.invariant.1)) c.loop-hashed.invariant.3)
]
