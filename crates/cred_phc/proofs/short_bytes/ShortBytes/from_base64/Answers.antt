use Rattle.std.proofs.{Common.◌≡◌, Common.◌∙◌, Common.length, Common.sym, Common.arith, lemmas.List.take_at}
use Rattle.cred_phc.proofs.Base64Laws.{too_long, bytes_read, no_bytes_read}
use Rattle.cred_phc.proofs.short_bytes.ShortBytes.from_base64.Goals as goal

pub returns-then-letters-gt-MOST_LETTERS : goal.returns-then-letters-gt-MOST_LETTERS
returns-then-letters-gt-MOST_LETTERS g c = too_long _ _ _ c.requires (λ i. omega (arith, c.type_inv.letters i)) c.if-letters-gt-MOST_LETTERS.true

pub returns-in-Ok : goal.returns-in-Ok
returns-in-Ok g c =
    let size : length c.decode.new.bytes ≡ c.decoded_len-len.result = c.decode.ensures.size ∙ sym c.decoded_len-len.ensures in
    c.new.ensures ∙ bytes_read _ _ _ c.decode.new.bytes _ c.in-Ok.ensures.ok (take_at c.decode.new.bytes _ c.decoded_len-len.result size)

pub returns-in-Err : goal.returns-in-Err
returns-in-Err g c = no_bytes_read _ _ _ c.in-Err.ensures.not_base64
