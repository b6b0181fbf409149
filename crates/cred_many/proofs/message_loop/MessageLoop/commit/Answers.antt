use Rattle.std.proofs.Common.{◌≡◌, None, [], ◌∷◌, map-id, refl, rules, sym, ◌∙◌}
use Rattle.std.proofs.lemmas.Iterator.Adapters.{YieldsList-from_vec}
use Rattle.std.proofs.lemmas.Iterator.Consumers.{YieldsList-end}
use Rattle.std.proofs.lemmas.List.{map-append}
use Rattle.cred_book.specs.Works.{Task}
use Rattle.cred_many.specs.{LineOperations.Entry, Scribe.entries_of, Turns.UseTurns}
use Rattle.cred_many.proofs.Uses.{all_used, none_used, use_more}
use Rattle.cred_many.proofs.message_loop.MessageLoop.commit.Goals.{then-lines-lt2, else-lines-lt2}
use Rattle.cred_many.proofs.message_loop.MessageLoop.commit.Goals as goal

pub loop-hashed-init : goal.loop-hashed-init
loop-hashed-init g c = ((λ going. (going, none_used _ _ refl)), refl)

pub loop-hashed-preserved : goal.loop-hashed-preserved
loop-hashed-preserved g c = (
  (λ going.
      let was = c.loop-hashed.invariant.0 (c.commit.ensures.going going) in
      (was.0, rw (map-append (λ (w : Entry × Task). w.0) c.loop-hashed.yielded (c.in-Some.hashed ∷ [])) (use_more _ c.in-Some.hashed.0 _ _ _ was.1 (c.commit.ensures.turns going)))),
  c.commit.ensures.came ∙ c.loop-hashed.invariant.1,
)

pub returns-clause-turns : goal.returns-clause-turns
returns-clause-turns g c =
    let end = YieldsList-end (YieldsList-from_vec {s = c.into_iter-hashed-iterator.result} c.if-lines-lt2.others.items (search rules) (search rules)) c.loop-hashed.yielded c.loop-hashed.hashed-iterator c.loop-hashed.yielded_by c.next.result c.next.new.self c.in-None.is c.next.ensures.steps in
    let all : c.loop-hashed.yielded ≡ c.if-lines-lt2.others.items = sym (map-id c.loop-hashed.yielded) ∙ end.0 in
    λ going.
    let was = c.loop-hashed.invariant.0 going in
    let used : UseTurns (entries_of c.if-lines-lt2.others.items) c.if-lines-lt2.scribe.output.pending c.loop-hashed.scribe.output.pending = rw (← all) was.1 in
    elim c.if-lines-lt2.branch [
      | then-lines-lt2 w ↦ rw (w.scribe-is, w.others-is, c.replace-changes.ensures.value) at used
      | else-lines-lt2 w ↦
          let calm : w.commit_together-others.new.self.output.fault ≡ None = rw w.scribe-is at was.0 in
          let had = rw c.replace-changes.ensures.value at (w.commit_together-others.ensures.turns calm) in
          all_used _ _ _ _ _ had (rw (w.scribe-is, w.others-is) at used)
    ]

pub returns-clause-going : goal.returns-clause-going
returns-clause-going g c = λ going.
    let was = c.loop-hashed.invariant.0 going in
    elim c.if-lines-lt2.branch [
      | then-lines-lt2 w ↦ rw w.scribe-is at was.0
      | else-lines-lt2 w ↦ w.commit_together-others.ensures.going (rw w.scribe-is at was.0)
    ]

pub returns-clause-same_came : goal.returns-clause-same_came
returns-clause-same_came g c =
    let was = c.loop-hashed.invariant.1 in
    elim c.if-lines-lt2.branch [
      | then-lines-lt2 w ↦ rw w.scribe-is at was
      | else-lines-lt2 w ↦ (rw w.scribe-is at was) ∙ w.commit_together-others.ensures.came
    ]
