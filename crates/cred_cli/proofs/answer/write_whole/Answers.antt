use Rattle.std.proofs.{Common.◌≡◌, Common.Some, Common.refl, Common.arith, Common.◌∙◌, Common.◌<◌, Common.length, Common.take, Common.◌++◌, lemmas.Bool.Decides.nat_tests, lemmas.List.take_rest, KnownBytes.Appends-trans}
use Rattle.std.specs.Result.{result_unwrap_or}
use Rattle.cred_cli.proofs.Writes.{cut_later, front_written, has_failed, none_more, none_taken, passed, taken_later, wrote}
use Rattle.cred_cli.proofs.answer.write_whole.Goals as goal

pub returns-then-n-eq0-clause-fails : goal.returns-then-n-eq0-clause-fails
returns-then-n-eq0-clause-fails g c =
    let (front, cut, written, taken, named) = c.loop-rest.invariant in
    let rest = c.loop-rest.rest.now in
    let left : 0 < length rest = grind (arith, nat_tests) in
    let none : result_unwrap_or c.write.result 0 ≡ 0 = cc in
    (refl, has_failed rest c.write.result _ none left c.write.ensures.none c.write.ensures.failed, front_written _ front rest _ _ cut left (none_more rest c.write.result _ _ _ front none written c.write.ensures.bytes))

pub returns-then-n-eq0-clause-taken_in_part : goal.returns-then-n-eq0-clause-taken_in_part
returns-then-n-eq0-clause-taken_in_part g c =
    let (front, cut, written, taken, named) = c.loop-rest.invariant in
    let rest = c.loop-rest.rest.now in
    let left : 0 < length rest = grind (arith, nat_tests) in
    let none : result_unwrap_or c.write.result 0 ≡ 0 = cc in (
      refl,
      has_failed rest c.write.result _ none left c.write.ensures.none c.write.ensures.failed,
      front_written _ front rest (Some c.args.writer.now.past.taken) (Some c.write.new.self.past.taken) cut left (none_taken rest c.write.result _ c.loop-rest.writer.past.taken _ front none taken c.write.ensures.passed),
    )

pub returns-then-n-eq0-clause-takes : goal.returns-then-n-eq0-clause-takes
returns-then-n-eq0-clause-takes g c =
    let (front, cut, written, taken, named) = c.loop-rest.invariant in
    let rest = c.loop-rest.rest.now in
    let none : result_unwrap_or c.write.result 0 ≡ 0 = cc in
    (front, none_taken rest c.write.result _ c.loop-rest.writer.past.taken _ front none taken c.write.ensures.passed, none_more rest c.write.result _ _ _ front none written c.write.ensures.bytes)

pub loop-rest-preserved : goal.loop-rest-preserved
loop-rest-preserved g c =
    let (front, cut, written, taken, named) = c.loop-rest.invariant in
    let rest = c.loop-rest.rest.now in
    let n : c.unwrap_or-n.result ≡ result_unwrap_or c.write.result 0 = cc in
    rw (take_rest, n) (
      front ++ take (result_unwrap_or c.write.result 0) rest,
      cut_later _ front rest (result_unwrap_or c.write.result 0) cut,
      Appends-trans _ _ _ _ _ written (wrote rest c.write.result _ _ c.write.ensures.bytes),
      taken_later _ c.loop-rest.writer.past.taken _ front _ taken (passed rest c.write.result _ _ c.write.ensures.passed),
      c.write.ensures.named ∙ named,
    )

pub returns-clause-takes : goal.returns-clause-takes
returns-clause-takes g c = let (front, cut, written, taken, named) = c.loop-rest.invariant in (front, taken, written)
