use Rattle.std.proofs.Common.{◌∙◌, ap, ap₂}
use Rattle.cred_blake.specs.{HashPrime.hash_prime, Words.bytes_of}
use Rattle.cred_argon.specs.Argon.{first_hash, argon}
use Rattle.cred_argon.proofs.tag.tag_of.Goals as goal

pub returns-in-Ok-clause-ok : goal.returns-in-Ok-clause-ok
unfolding argon
returns-in-Ok-clause-ok g c pw salt secret assoc held =
    let h = first_hash c.args.params.now pw salt secret assoc in
    c.in-Ok.ensures.value ∙ ap₂ hash_prime c.tag_len.ensures.value (c.bytes_of_block-last.ensures ∙ ap bytes_of (c.last_blocks.ensures h held))
