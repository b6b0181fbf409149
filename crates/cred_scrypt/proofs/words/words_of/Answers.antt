use Rattle.std.proofs.Common.{◌≡◌, ◌+◌, ◌-◌, ◌*◌, take, drop, arith, ◌++◌, ◌∷◌, [], ◌∙◌, ap, add-one}
use Rattle.std.specs.Int.{w32, from_le_bytes}
use Rattle.cred_scrypt.specs.Scrypt.{words_of}
use Rattle.cred_scrypt.proofs.words.words_of.Goals as goal

pub words-init : goal.words-init
unfolding words_of
words-init c = c.in_ok-words.ensures.items

pub words-preserved : goal.words-preserved
unfolding words_of
words-preserved c =
    let at = 4 * c.words.i in
    let width : at + 4 - at ≡ 4 = omega arith in
    let bytes = c.copy_from_slice.ensures.after ∙ ap (λ n. take n (drop at c.args.bytes.now)) width in
    let word = c.from_le_bytes.ensures ∙ ap (from_le_bytes w32) bytes in
    rw (add-one, ← c.words.invariant)
    (c.in_ok-push.ensures.items ∙ ap (λ w. c.words.words.items ++ w ∷ []) word)
