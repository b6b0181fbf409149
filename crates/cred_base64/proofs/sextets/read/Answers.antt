use Rattle.std.proofs.Common.{◌∙◌}
use Rattle.cred_base64.specs.Sextets.{sextet_at}
use Rattle.cred_base64.proofs.PlaceLaws.{agree_all, sextet_at-small}
use Rattle.cred_base64.proofs.sextets.read.Goals as goal

pub returns-clause-letters : goal.returns-clause-letters
returns-clause-letters c =
    λ bytes small is inside. c.sextet_of.ensures.letters (sextet_at bytes c.args.place) (sextet_at-small bytes c.args.place small)
    (c.byte_at.ensures ∙ agree_all c.args.letters.now bytes is c.args.place inside)
