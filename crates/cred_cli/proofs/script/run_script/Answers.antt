use Rattle.std.proofs.Common.{◌+◌, ◌≤◌, ◌++◌, [], length, refl, sym, append-nil, arith}
use Rattle.cred_cli.specs.{Script.script_start, Scripts.ScriptEnds, Watched.Contract, Watched.Transcript, Watched.given_of, Watched.transcript_writing}
use Rattle.cred_cli.proofs.{Basis.alone, Basis.answers_of, Basis.as_passed, Programs.ends_in_parts}
use Rattle.cred_cli.proofs.script.run_script.Goals as goal

pub returns : goal.returns
returns g c =
    let reader = c.answer_all.new.reader in
    let writing = transcript_writing c.args.writer.now c.answer_all.new.writer in
    let known = ends_in_parts _ _ _ _ _ _ _ (c.answer_all.ensures.ended Contract tt) in
    record {
      done = known.0;
      short = known.1;
      fault = known.2;
      prompt = known.3;
      few = c.answer_all.ensures.few Contract tt;
      answers =
          let ended = as_passed g.R.Read.remaining c.args.reader.now reader [] _ c.requires.new_reader.given (sym (append-nil (given_of reader)))
          (λ r bytes. ScriptEnds g.K.Keeper.capacity (script_start (g.K.Keeper.book c.args.keeper.now) bytes writing.before) r writing (g.K.Keeper.book c.answer_all.new.keeper) c.answer_all.result)
          (c.answer_all.ensures.ended (Transcript (given_of reader)) (alone reader)) in
          answers_of g.K.Keeper.capacity (g.K.Keeper.book c.args.keeper.now) (g.K.Keeper.book c.answer_all.new.keeper) (given_of reader) _ _ c.answer_all.result c.requires.new_writer.taken ended.done;
      end = c.answer_all.ensures.end;
      transcript = λ rest may.
          as_passed g.R.Read.remaining c.args.reader.now reader rest _ c.requires.new_reader.given refl
          (λ r bytes. ScriptEnds g.K.Keeper.capacity (script_start (g.K.Keeper.book c.args.keeper.now) bytes writing.before) r writing (g.K.Keeper.book c.answer_all.new.keeper) c.answer_all.result)
          (c.answer_all.ensures.ended (Transcript (given_of reader ++ rest)) (rest, refl, may));
      reads = as_passed g.R.Read.remaining c.args.reader.now reader [] _ c.requires.new_reader.given (sym (append-nil (given_of reader))) (λ r bytes. reader.calls ≤ length bytes + 1)
          (c.answer_all.ensures.few (Transcript (given_of reader)) (alone reader));
      cause = c.answer_all.ensures.cause;
      calls = omega (arith, c.answer_all.ensures.calls);
      logged = c.answer_all.ensures.logged;
      gives = c.answer_all.ensures.gives;
      takes = c.answer_all.ensures.takes;
    }
