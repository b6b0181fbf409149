use Rattle.std.proofs.{Common.rules, Common.arith, Common.sym, Common.refl, Common.ap, Common.◌∙◌, Common.append-nil, Common.[], Common.◌≤◌, Common.◌<◌, Common.◌+◌, Common.◌-◌, Common.◌^◌, Common.length, Common.length-take-le, Common.take, Math.Nat.min-eq_left, lemmas.List.length-append, lemmas.Result.err_from_is_err_and}
use Rattle.cred_cli.proofs.{Prompts.prompt_call, Prompts.read_on, Prompts.read_to_start, Prompts.run_breaks, Prompts.run_ends, Basis.called_on, Basis.fits_before, Basis.gave_on, Basis.gives_more, Basis.gives_nothing, Basis.kept_on, Basis.logged_on, Basis.new_logged, Basis.none_logged, Basis.unwritten, Basis.written_on}
use Rattle.cred_cli.proofs.Readings.{came, came_to_end, cut_behind, kept_left}
use Rattle.cred_cli.proofs.script.Run.read_all.Goals as goal

pub loop-call-init : goal.loop-call-init
loop-call-init g c = record {
  at = λ basis fits script known at. read_to_start _ script _ _ _ _ known at (none_logged basis _ c.requires.new_reader.log);
  ended = c.requires.new_reader.ended;
  logged = new_logged c.args.reader.now c.requires.new_reader;
  calls = c.requires.new_reader.calls;
  taken = omega (arith, c.requires.new_progress);
  gives = gives_nothing g.R.Read.remaining c.args.reader.now;
  written = unwritten g.W.Write.contents c.args.writer.now;
  size = search rules;
}

pub returns-in-Ok-eq0-clause-ended : goal.returns-in-Ok-eq0-clause-ended
returns-in-Ok-eq0-clause-ended g c = λ basis fits script known at.
    let before = fits_before g.R.Read.remaining c.loop-call.reader c.read_beside.new.self basis _ c.in-Ok-eq0.ensures.passed c.loop-call.invariant.ended fits in
    let read = c.loop-call.invariant.at basis before script known at in
    let called = called_on g.R.Read.remaining g.W.Write.contents c.loop-call.reader c.loop-call.writer (g.K.Keeper.book c.loop-call.keeper) c.loop-call.self _ basis _ c.loop-call.invariant.written.named c.read_beside.ensures.logged in
    let gave = gave_on g.R.Read.remaining c.loop-call.reader c.read_beside.new.self basis _ c.read_beside.new.buf c.in-Ok-eq0.ensures.bytes c.in-Ok-eq0.ensures.passed c.in-Ok-eq0.ensures.end fits in
    let none = came_to_end _ _ read.rest _ _ c.in-Ok-eq0.field-0-test read.left_is gave.0 (gave.1 c.in-Ok-eq0.field-0-test (omega (arith, c.loop-call.invariant.size))) in
    let done = run_ends read none (c.in_ok-lines-in-Ok-eq0.ensures.answered basis) in
    let size = ap length (sym (rw (none, append-nil) at read.cut)) in
    record {
      done = done.ended;
      fault = tt;
      short = omega (arith, size, read.at.taken_is, c.loop-call.self.progress.not_too_long);
      prompt = prompt_call read called;
    }

pub returns-in_err-lines-in-Ok-eq0-clause-ended : goal.returns-in_err-lines-in-Ok-eq0-clause-ended
returns-in_err-lines-in-Ok-eq0-clause-ended g c = λ basis fits script known at.
    let before = fits_before g.R.Read.remaining c.loop-call.reader c.read_beside.new.self basis _ c.in-Ok-eq0.ensures.passed c.loop-call.invariant.ended fits in
    let read = c.loop-call.invariant.at basis before script known at in
    let called = called_on g.R.Read.remaining g.W.Write.contents c.loop-call.reader c.loop-call.writer (g.K.Keeper.book c.loop-call.keeper) c.loop-call.self _ basis _ c.loop-call.invariant.written.named c.read_beside.ensures.logged in
    let gave = gave_on g.R.Read.remaining c.loop-call.reader c.read_beside.new.self basis _ c.read_beside.new.buf c.in-Ok-eq0.ensures.bytes c.in-Ok-eq0.ensures.passed c.in-Ok-eq0.ensures.end fits in
    let none = came_to_end _ _ read.rest _ _ c.in-Ok-eq0.field-0-test read.left_is gave.0 (gave.1 c.in-Ok-eq0.field-0-test (omega (arith, c.loop-call.invariant.size))) in
    let told = err_from_is_err_and c.from_residual.result c.from_residual.ensures.1 in
    rw (told.1, told.2) (run_breaks read called _ _ _ refl refl refl (run_ends read none (c.in_err-lines-in-Ok-eq0.ensures.answered basis)))

pub returns-in_err-take_bytes-in-Ok-clause-ended : goal.returns-in_err-take_bytes-in-Ok-clause-ended
returns-in_err-take_bytes-in-Ok-clause-ended g c = λ basis fits script known at.
    let before = fits_before g.R.Read.remaining c.loop-call.reader c.read_beside.new.self basis _ c.in-Ok.ensures.passed c.loop-call.invariant.ended fits in
    let read = c.loop-call.invariant.at basis before script known at in
    let called = called_on g.R.Read.remaining g.W.Write.contents c.loop-call.reader c.loop-call.writer (g.K.Keeper.book c.loop-call.keeper) c.loop-call.self _ basis _ c.loop-call.invariant.written.named c.read_beside.ensures.logged in
    let gave = gave_on g.R.Read.remaining c.loop-call.reader c.read_beside.new.self basis _ c.read_beside.new.buf c.in-Ok.ensures.bytes c.in-Ok.ensures.passed c.in-Ok.ensures.end fits in
    let more = came _ _ read.rest _ read.left_is gave.0 in
    let told = err_from_is_err_and c.from_residual-in_err-take_bytes-in-Ok.result c.from_residual-in_err-take_bytes-in-Ok.ensures.1 in
    let done = c.in_err-take_bytes-in-Ok.ensures.fed basis script read.front more.left (cut_behind script.bytes read.front read.rest _ _ read.cut more.cut) read.at in
    rw (told.1, told.2) (run_breaks read called _ _ _ refl refl refl done)

pub returns-in_err-take_bytes-in-Ok-clause-few : goal.returns-in_err-take_bytes-in-Ok-clause-few
returns-in_err-take_bytes-in-Ok-clause-few g c = λ basis fits script known at.
    let before = fits_before g.R.Read.remaining c.loop-call.reader c.read_beside.new.self basis _ c.in-Ok.ensures.passed c.loop-call.invariant.ended fits in
    let read = c.loop-call.invariant.at basis before script known at in
    let small : c.loop-call.reader.calls + 1 ≤ 2 ^ 64 - 1 = omega (arith, c.loop-call.invariant.calls) in
    let calls = c.read_beside.ensures.calls ∙ min-eq_left small in
    let size = ap length read.cut ∙ length-append read.front read.rest in
    omega (arith, calls, size, c.loop-call.invariant.calls, c.loop-call.invariant.taken, read.at.taken_is)

-- the reader failed
pub returns-in-Err-clause-ended : goal.returns-in-Err-clause-ended
returns-in-Err-clause-ended g c = λ basis fits script known at.
    let before = fits_before g.R.Read.remaining c.loop-call.reader c.read_beside.new.self basis [] (c.in-Err.ensures.passed ∙ sym (append-nil c.loop-call.reader.past.given)) c.loop-call.invariant.ended fits in
    let read = c.loop-call.invariant.at basis before script known at in
    let called = called_on g.R.Read.remaining g.W.Write.contents c.loop-call.reader c.loop-call.writer (g.K.Keeper.book c.loop-call.keeper) c.loop-call.self _ basis _ c.loop-call.invariant.written.named c.read_beside.ensures.logged in
    let kept = kept_on g.R.Read.remaining c.loop-call.reader c.read_beside.new.self basis c.in-Err.ensures.bytes c.in-Err.ensures.passed in
    record {
      done = tt;
      fault = (read.front, kept_left _ _ script.bytes read.front read.rest read.left_is kept read.cut, read.at.place.stands);
      short = tt;
      prompt = prompt_call read called;
    }

-- ---- each call is in the log

pub returns-in-Ok-eq0-clause-logged : goal.returns-in-Ok-eq0-clause-logged
returns-in-Ok-eq0-clause-logged g c =
    logged_on c.args.reader.now c.loop-call.reader c.read_beside.new.self _ (omega (arith, c.loop-call.invariant.calls)) c.loop-call.invariant.logged c.read_beside.ensures.logged c.read_beside.ensures.named c.read_beside.ensures.calls

pub returns-in_err-lines-in-Ok-eq0-clause-logged : goal.returns-in_err-lines-in-Ok-eq0-clause-logged
returns-in_err-lines-in-Ok-eq0-clause-logged g c =
    logged_on c.args.reader.now c.loop-call.reader c.read_beside.new.self _ (omega (arith, c.loop-call.invariant.calls)) c.loop-call.invariant.logged c.read_beside.ensures.logged c.read_beside.ensures.named c.read_beside.ensures.calls

pub returns-in_err-take_bytes-in-Ok-clause-logged : goal.returns-in_err-take_bytes-in-Ok-clause-logged
returns-in_err-take_bytes-in-Ok-clause-logged g c =
    logged_on c.args.reader.now c.loop-call.reader c.read_beside.new.self _ (omega (arith, c.loop-call.invariant.calls)) c.loop-call.invariant.logged c.read_beside.ensures.logged c.read_beside.ensures.named c.read_beside.ensures.calls

pub returns-in-Err-clause-logged : goal.returns-in-Err-clause-logged
returns-in-Err-clause-logged g c =
    logged_on c.args.reader.now c.loop-call.reader c.read_beside.new.self _ (omega (arith, c.loop-call.invariant.calls)) c.loop-call.invariant.logged c.read_beside.ensures.logged c.read_beside.ensures.named c.read_beside.ensures.calls

pub loop-call-preserved : goal.loop-call-preserved
loop-call-preserved g c =
    let small : c.loop-call.reader.calls + 1 ≤ 2 ^ 64 - 1 = omega (arith, c.loop-call.invariant.calls) in
    let within : c.in-Ok.n ≤ length c.read_beside.new.buf = omega (arith, c.in-Ok.ensures.bound) in
    record {
      at = λ basis fits script known at.
          let before = fits_before g.R.Read.remaining c.loop-call.reader c.read_beside.new.self basis _ c.in-Ok.ensures.passed c.loop-call.invariant.ended fits in
          let read = c.loop-call.invariant.at basis before script known at in
          let called = called_on g.R.Read.remaining g.W.Write.contents c.loop-call.reader c.loop-call.writer (g.K.Keeper.book c.loop-call.keeper) c.loop-call.self _ basis _ c.loop-call.invariant.written.named c.read_beside.ensures.logged in
          let gave = gave_on g.R.Read.remaining c.loop-call.reader c.read_beside.new.self basis _ c.read_beside.new.buf c.in-Ok.ensures.bytes c.in-Ok.ensures.passed c.in-Ok.ensures.end fits in
          let more = came _ _ read.rest _ read.left_is gave.0 in
          let some : 0 < length (take c.in-Ok.n c.read_beside.new.buf) = omega (arith, c.in-Ok.n-test, length-take-le c.in-Ok.n c.read_beside.new.buf within) in
          read_on read called _ more some
          (c.in_ok-take_bytes-in-Ok.ensures.fed basis script read.front more.left (cut_behind script.bytes read.front read.rest _ _ read.cut more.cut) read.at);
      logged = logged_on c.args.reader.now c.loop-call.reader c.read_beside.new.self _ small c.loop-call.invariant.logged c.read_beside.ensures.logged c.read_beside.ensures.named c.read_beside.ensures.calls;
      ended = c.in-Ok.ensures.goes_on (omega (arith, c.in-Ok.n-test)) ∙ c.loop-call.invariant.ended;
      calls = c.read_beside.ensures.calls ∙ min-eq_left small ∙ ap (λ n. n + 1) c.loop-call.invariant.calls;
      taken = omega (arith, c.in_ok-take_bytes-in-Ok.ensures.taken, c.loop-call.invariant.taken, c.in-Ok.n-test, length-take-le c.in-Ok.n c.read_beside.new.buf within);
      gives = gives_more g.R.Read.remaining c.args.reader.now c.loop-call.reader c.read_beside.new.self _ c.loop-call.invariant.gives c.in-Ok.ensures.passed c.in-Ok.ensures.bytes.0;
      written = written_on g.W.Write.contents c.args.writer.now c.loop-call.writer c.take_bytes.new.writer c.loop-call.invariant.written c.in_ok-take_bytes-in-Ok.ensures.written;
      size = omega (arith, c.loop-call.invariant.size, c.read_beside.auto.buf);
    }

-- each call gave a byte, and no more bytes were taken than a script may have
pub unreachable-requires : goal.unreachable-requires
unreachable-requires g c =
    omega (arith, c.loop-call-test.false, c.loop-call.invariant.taken, c.loop-call.self.progress.not_too_long)
