use Rattle.std.proofs.Common.{◌≡◌, ◌^◌, ◌++◌, ◌∙◌, ap, sym, add-one}
use Rattle.cred_scrypt.specs.{Mixing.ro_mix, Scrypt.bytes_of, Scrypt.mixed_pieces, Scrypt.piece}
use Rattle.cred_scrypt.proofs.pieces.Piece.joined.Goals as goal

pub joins-init : goal.joins-init
unfolding mixed_pieces
joins-init c = λ ln r b mixed. c.in_ok-bytes.ensures.items

pub joins-preserved : goal.joins-preserved
unfolding mixed_pieces
joins-preserved c = λ ln r b mixed.
    let here = c.piece-item.result in
    let i = c.joins.piece-index in
    let kept = ap (λ p. p.refused) (sym c.piece-item.is) ∙ c.if-piece.false in
    let words : here.words.items ≡ ro_mix r (2 ^ ln) (piece r b i) =
    ap (λ p. p.words.items) c.piece-item.is ∙ mixed i here c.joins-test.true kept in
    rw (add-one, ← c.joins.invariant ln r b mixed, ← words)
    (c.in_ok-put_words.ensures ∙ ap (λ w. c.joins.bytes.items ++ bytes_of w) c.deref.ensures.value)
