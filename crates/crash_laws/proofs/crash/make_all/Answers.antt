use Rattle.std.proofs.Common.{◌∷◌, ◌++◌, [], arith, ap, length, length-append, map-id, rules, subst, sym, ◌∙◌}
use Rattle.std.proofs.lemmas.Iterator.Adapters.{YieldsList-from_vec}
use Rattle.std.proofs.lemmas.Iterator.Consumers.{YieldsList-end}
use Rattle.crash_laws.specs.Crashes.{AreMade, asked_of}
use Rattle.crash_laws.proofs.Made.{asked_more, none_asked, none_yet, one_more}
use Rattle.crash_laws.proofs.crash.make_all.Goals as goal

pub loop-change-init : goal.loop-change-init
loop-change-init g c = record {
  made = subst (AreMade g.S.Store c.args.book.now c.args.book.now) (sym (none_asked c.args.answers.items [] c.requires.none)) (none_yet g.S.Store c.args.book.now);
  same = ap length c.requires.none;
  room = omega (arith, c.requires.unused, c.requires.room, c.into_iter-change-iterator.ensures.into_iter_gives);
}

pub loop-change-preserved : goal.loop-change-preserved
loop-change-preserved g c =
    let was = c.loop-change.invariant in
    let asked = ap (λ items. asked_of items (c.loop-change.yielded ++ c.in-Some.change ∷ [])) c.push_reserved.ensures.items ∙ asked_more c.loop-change.answers.items c.loop-change.yielded c.make.result c.in-Some.change was.same in
    record {
      made = subst (AreMade g.S.Store c.args.book.now c.make.new.book) (sym asked) (one_more g.S.Store c.args.book.now c.loop-change.book c.make.new.book _ _ was.made c.make.ensures);
      same = omega (arith, ap length c.push_reserved.ensures.items, length-append c.loop-change.answers.items (c.make.result ∷ []), length-append c.loop-change.yielded (c.in-Some.change ∷ []), was.same);
      room = omega (arith, was.room, c.push_reserved.ensures.len, c.push_reserved.ensures.capacity, c.in-Some.ensures.steps);
    }

pub returns-clause-asked : goal.returns-clause-asked
returns-clause-asked g c =
    let end = YieldsList-end (YieldsList-from_vec {s = c.into_iter-change-iterator.result} c.args.changes.items (search rules) (search rules)) c.loop-change.yielded c.loop-change.change-iterator c.loop-change.yielded_by c.next.result c.next.new.self c.in-None.is c.next.ensures.steps in
    c.loop-change.invariant.same ∙ ap length (sym (map-id c.loop-change.yielded) ∙ end.0)

pub returns-clause-made : goal.returns-clause-made
returns-clause-made g c =
    let end = YieldsList-end (YieldsList-from_vec {s = c.into_iter-change-iterator.result} c.args.changes.items (search rules) (search rules)) c.loop-change.yielded c.loop-change.change-iterator c.loop-change.yielded_by c.next.result c.next.new.self c.in-None.is c.next.ensures.steps in
    subst (λ changes. AreMade g.S.Store c.args.book.now c.loop-change.book (asked_of c.loop-change.answers.items changes)) (sym (map-id c.loop-change.yielded) ∙ end.0) c.loop-change.invariant.made
