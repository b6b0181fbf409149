use Rattle.std.proofs.{Common.arith, Common.take, Common.get_or, Common.[], Common.◌∷◌, lemmas.List.take_all, lemmas.List.take_more, lemmas.Result.err_from_is_err_and}
use Rattle.cred_cli.proofs.{Basis.unwritten, Basis.written_on, Runs.takes_in_part, Runs.takes_none, Runs.takes_then}
use Rattle.cred_cli.proofs.script.Run.take_bytes.Goals as goal

pub loop-byte-init : goal.loop-byte-init
loop-byte-init g c = record {
  fed = λ basis. takes_none _ _;
  written = unwritten g.W.Write.contents c.args.writer.now;
  taken = omega arith;
}

pub loop-byte-preserved : goal.loop-byte-preserved
loop-byte-preserved g c = record {
  fed = λ basis. rw (take_more c.args.bytes.now c.loop-byte.byte-index 0 (omega arith))
      (takes_then _ (take c.loop-byte.byte-index c.args.bytes.now) (get_or c.args.bytes.now c.loop-byte.byte-index 0 ∷ []) _ _ _ _ (c.loop-byte.invariant.fed basis) (c.in_ok-take_byte.ensures.fed basis));
  written = written_on g.W.Write.contents c.args.writer.now c.loop-byte.writer c.take_byte.new.writer c.loop-byte.invariant.written c.in_ok-take_byte.ensures.written;
  taken = omega (arith, c.in_ok-take_byte.ensures.taken, c.loop-byte.invariant.taken);
}

pub returns-in_err-take_byte-clause-fed : goal.returns-in_err-take_byte-clause-fed
returns-in_err-take_byte-clause-fed g c = λ basis.
    let told = err_from_is_err_and c.from_residual.result c.from_residual.ensures.1 in
    rw (told.1, told.2)
    (takes_in_part _ c.args.bytes.now c.loop-byte.byte-index _ _ _ _ (omega arith) (c.loop-byte.invariant.fed basis) (c.in_err-take_byte.ensures.fed basis))

pub returns-clause-fed : goal.returns-clause-fed
returns-clause-fed g c = λ basis. rw (take_all c.loop-byte.byte-index c.args.bytes.now (omega arith)) at (c.loop-byte.invariant.fed basis)
