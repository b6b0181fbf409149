use Rattle.std.proofs.{Common.◌≡◌, Common.◌<◌, Common.arith, Common.sym, Common.◌∙◌, Common.length, Common.Some, Common.slice_get, lemmas.Bool.Decides.nat_tests, lemmas.Result.err_from_is_err_and}
use Rattle.cred_cli.specs.Script.{events_of, line_ends}
use Rattle.cred_cli.proofs.Feeds.{count-ended, has_last, none_kept, some_kept}
use Rattle.cred_cli.proofs.script.Run.finish.Goals as goal

-- every line has its end
pub returns-then-is_empty-clause-answered : goal.returns-then-is_empty-clause-answered
returns-then-is_empty-clause-answered g c = λ basis script at.
    let none : length c.bytes.result.now ≡ 0 = grind (arith, nat_tests) in
    let count : length (events_of script.bytes) ≡ line_ends script.bytes = count-ended script.bytes (none_kept _ _ (c.bytes.ensures ∙ at.start_is) none) in
    record {
      ended = record { written = rw count at.place.stands.written; accounts_are = rw count at.place.stands.accounts_are; lines_are = at.lines_are ∙ sym count };
    }

-- the last line has none
pub returns-clause-answered : goal.returns-clause-answered
returns-clause-answered g c = λ basis script at.
    let some : 0 < length c.bytes.result.now = grind (arith, nat_tests) in
    let last = has_last script.bytes (some_kept _ _ (c.bytes.ensures ∙ at.start_is) some) in
    let event : slice_get (events_of script.bytes) (line_ends script.bytes) ≡ Some c.of_line-event.result = rw (c.of_line-event.ensures.event, c.bytes-2.ensures, at.start_is) last.event in
    let done = c.in_ok-answer_line.ensures.answered basis c.args.self.now.progress script (line_ends script.bytes) at.place event in
    let stands = done.ended.stands in
    record {
      ended = record { written = rw last.count stands.written; accounts_are = rw last.count stands.accounts_are; lines_are = rw last.count (omega (arith, at.lines_are)) };
    }

pub returns-in_err-answer_line-clause-answered : goal.returns-in_err-answer_line-clause-answered
returns-in_err-answer_line-clause-answered g c = λ basis script at.
    let some : 0 < length c.bytes.result.now = grind (arith, nat_tests) in
    let last = has_last script.bytes (some_kept _ _ (c.bytes.ensures ∙ at.start_is) some) in
    let event : slice_get (events_of script.bytes) (line_ends script.bytes) ≡ Some c.of_line-event.result = rw (c.of_line-event.ensures.event, c.bytes-2.ensures, at.start_is) last.event in
    let told = err_from_is_err_and c.from_residual.result c.from_residual.ensures.1 in
    let done = c.in_err-answer_line.ensures.answered basis c.args.self.now.progress script (line_ends script.bytes) at.place event in
    record { ended = rw (told.1, told.2) done.ended }
