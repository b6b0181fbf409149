use Rattle.std.proofs.Common.{◌≡◌, [], ◌∷◌, ◌++◌, codes, ◌∙◌, subst}
use Rattle.std.specs.Prelude.{decimal}
use Rattle.cred_file.proofs.Within.{on_any}
use Rattle.cred_many.specs.Transcript.{TakesFront, TakesMore}
use Rattle.cred_many.proofs.Transcripts.{front_behind_first, front_of_first}
use Rattle.cred_many.proofs.output.write_later.Goals as goal

pub returns-in_err-write_text-2-clause-front : goal.returns-in_err-write_text-2-clause-front
returns-in_err-write_text-2-clause-front g c =
    on_any _ (front_behind_first _ _ _ _ _ c.in_ok-write_text.ensures.done (front_of_first _ _ (codes " later ") (decimal c.args.seconds ++ 10 ∷ []) c.in_err-write_text-2.ensures.front))

pub returns-in_err-write_text-3-clause-front : goal.returns-in_err-write_text-3-clause-front
returns-in_err-write_text-3-clause-front g c =
    let text : c.as_bytes.result.now ≡ decimal c.args.seconds = c.as_bytes.ensures.value ∙ c.format.ensures.text in
    let told = subst (TakesFront _ _) text c.in_err-write_text-3.ensures.front in
    on_any _ (front_behind_first _ _ _ _ _ c.in_ok-write_text.ensures.done (front_behind_first _ _ _ (codes " later ") _ c.in_ok-write_text-2.ensures.done (front_of_first _ _ (decimal c.args.seconds) (10 ∷ []) told)))

pub returns-in_err-write_text-4-clause-front : goal.returns-in_err-write_text-4-clause-front
returns-in_err-write_text-4-clause-front g c =
    let text : c.as_bytes.result.now ≡ decimal c.args.seconds = c.as_bytes.ensures.value ∙ c.format.ensures.text in
    let told = subst (TakesMore _ _) text c.in_ok-write_text-3.ensures.done in
    on_any _ (front_behind_first _ _ _ _ _ c.in_ok-write_text.ensures.done (front_behind_first _ _ _ (codes " later ") _ c.in_ok-write_text-2.ensures.done (front_behind_first _ _ _ (decimal c.args.seconds) _ told c.in_err-write_text-4.ensures.front)))
