use Rattle.std.proofs.Common.{[], ◌∷◌}
use Rattle.cred_file.proofs.Within.{on_any}
use Rattle.cred_many.proofs.Transcripts.{front_behind_first, front_of_first, takes_both}
use Rattle.cred_many.proofs.output.write_answer.Goals as goal

pub returns-clause-done : goal.returns-clause-done
returns-clause-done g c = takes_both _ _ _ c.args.tag.now _ c.in_ok-write_text.ensures.done (takes_both _ _ _ (32 ∷ []) c.args.answer.now c.in_ok-write_text-2.ensures.done c.in_ok-write_text-3.ensures.done)

pub returns-in_err-write_text-clause-front : goal.returns-in_err-write_text-clause-front
returns-in_err-write_text-clause-front g c = on_any _ (front_of_first _ _ c.args.tag.now _ c.in_err-write_text.ensures.front)

pub returns-in_err-write_text-2-clause-front : goal.returns-in_err-write_text-2-clause-front
returns-in_err-write_text-2-clause-front g c =
    on_any _ (front_behind_first _ _ _ _ _ c.in_ok-write_text.ensures.done (front_of_first _ _ (32 ∷ []) c.args.answer.now c.in_err-write_text-2.ensures.front))

pub returns-in_err-write_text-3-clause-front : goal.returns-in_err-write_text-3-clause-front
returns-in_err-write_text-3-clause-front g c =
    on_any _ (front_behind_first _ _ _ _ _ c.in_ok-write_text.ensures.done (front_behind_first _ _ _ (32 ∷ []) c.args.answer.now c.in_ok-write_text-2.ensures.done c.in_err-write_text-3.ensures.front))
