use Rattle.std.proofs.Common.{◌++◌, ◌∙◌, ap₂, sym, take, get_or, append-nil}
use Rattle.std.specs.Int.{w32, to_le_bytes}
use Rattle.std.proofs.lemmas.List.{flat_map_more, take_more}
use Rattle.cred_scrypt.specs.Scrypt.{bytes_of}
use Rattle.cred_scrypt.proofs.words.put_words.Goals as goal

pub words-init : goal.words-init
unfolding bytes_of
words-init c = sym (append-nil c.args.bytes.now.items)

pub words-preserved : goal.words-preserved
unfolding bytes_of
words-preserved c =
    let words = c.args.words.now in
    let i = c.words.word-index in
    rw (take_more words i 0 c.words-test.true, ← flat_map_more (to_le_bytes w32) c.args.bytes.now.items (take i words) (get_or words i 0))
    (c.in_ok-extend_from_slice.ensures.items ∙ ap₂ (λ a b. a ++ b) c.words.invariant c.to_le_bytes.ensures)
