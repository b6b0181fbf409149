use Rattle.std.proofs.{Common.ap, Common.arith, lemmas.Result.err_from_is_err_and}
use Rattle.cred_admin.specs.Import.{Tally, said_of, tally_from, tally_of}
use Rattle.cred_admin.proofs.Tallies.{fault_of_line, grows, tally_end, tally_more}
use Rattle.cred_admin.proofs.import.gather_lines.Goals as goal

pub loop-number-init : goal.loop-number-init
loop-number-init c = record {
  goes = λ i. tally_from c.args.rules c.args.book.now (c.new-found.ensures i) 1 (c.new-lines.ensures i);
  kept = omega (arith, ap (λ (t : Tally). t.kept) c.new-found.ensures);
}

pub loop-number-preserved : goal.loop-number-preserved
loop-number-preserved c =
    let was = c.loop-number.invariant in
    let done = c.in_ok-take_line-in-Some.ensures in
    let more = grows c.args.rules c.args.book.now (tally_of c.loop-number.found) c.loop-number.number (said_of c.args.rules.locked c.in-Some.line.now) in
    record {
      goes = tally_more _ _ _ _ _ _ _ _ _ was.goes c.in-Some.ensures done;
      kept = omega (arith, was.kept, ap (λ (t : Tally). t.kept) done, more.kept);
    }

pub returns-in-None-clause-done : goal.returns-in-None-clause-done
returns-in-None-clause-done c = tally_end _ _ _ _ _ _ c.loop-number.invariant.goes c.in-None.ensures.0

pub returns-in-None-next-clause-done : goal.returns-in-None-next-clause-done
returns-in-None-next-clause-done c = tally_end _ _ _ _ _ _ c.loop-number.invariant.goes c.in-None-next.ensures.0

pub returns-in_err-take_line-in-Some-clause-fault : goal.returns-in_err-take_line-in-Some-clause-fault
returns-in_err-take_line-in-Some-clause-fault c =
    let told = err_from_is_err_and c.from_residual.result c.from_residual.ensures.1 in
    rw (told.1, told.2) (fault_of_line _ _ _ _ _ _ _ _ c.loop-number.invariant.goes c.in-Some.ensures c.in_err-take_line-in-Some.field-0.0 c.in_err-take_line-in-Some.ensures)
