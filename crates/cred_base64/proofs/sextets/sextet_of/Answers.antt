use Rattle.cred_base64.proofs.LetterLaws.{sextet_code_is}
use Rattle.cred_base64.proofs.sextets.sextet_of.Goals as goal

pub returns-clause-letters : goal.returns-clause-letters
returns-clause-letters c =
    λ v small is. rw (c.reaches.ensures, c.reaches-2.ensures, c.reaches-3.ensures, c.reaches-4.ensures, c.from-letter.ensures)
    (sextet_code_is c.args.letter v small is)
