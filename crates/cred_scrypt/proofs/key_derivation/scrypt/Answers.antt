use Rattle.std.proofs.{Common.◌*◌, Common.◌∙◌, Common.length, Common.drop, Common.arith, lemmas.List.take_at}
use Rattle.cred_scrypt.specs.{Pbkdf2.pbkdf2, Scrypt.scrypt}
use Rattle.cred_scrypt.proofs.key_derivation.scrypt.Goals as goal

pub returns-clause-ok : goal.returns-clause-ok
unfolding scrypt
returns-clause-ok g c =
    let b = pbkdf2 c.args.pw.now c.args.salt.now 1 (128 * c.args.params.now.r * c.args.params.now.p) in
    let pieces = c.mix_all.new.pieces in
    let before = c.in_ok-pieces.pieces in
    c.key_of.ensures.ok b (rw (c.deref.ensures.value ∙ take_at pieces (drop (length pieces) before.items) before.len (omega arith))
    (c.mix_all.ensures b (rw c.deref_mut.ensures.value c.in_ok-pieces.ensures.cut)))
