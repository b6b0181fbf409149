use Rattle.std.proofs.{Common.◌≡◌, Common.◌++◌, Common.◌∙◌, Common.false, Common.nat_lt, Common.length, Common.ap, Common.arith, lemmas.Bool.lt-ltb}
use Rattle.std.proofs.{lemmas.Bool.Decides.nat_tests, lemmas.List.drop-replicate}
use Rattle.cred_scrypt.specs.Hmac.{key_block}
use Rattle.cred_scrypt.proofs.hmac.key_block.Goals as goal

pub returns-then-key-gt-BLOCK : goal.returns-then-key-gt-BLOCK
unfolding key_block
returns-then-key-gt-BLOCK c =
    rw (lt-ltb 64 (length c.args.key.now) c.if-key-gt-BLOCK.true, ← c.digest.ensures)
    (c.put.ensures ∙ ap (λ zeros. c.digest.result ++ zeros) (drop-replicate (length c.digest.result) 64 0))

pub returns-else-key-gt-BLOCK : goal.returns-else-key-gt-BLOCK
unfolding key_block
returns-else-key-gt-BLOCK c =
    let key = c.args.key.now in
    let short : nat_lt 64 (length key) ≡ false = grind (arith, nat_tests) in
    rw short (c.put-else-key-gt-BLOCK.ensures ∙ ap (λ zeros. key ++ zeros) (drop-replicate (length key) 64 0))
