use Rattle.std.proofs.Common.{◌≡◌, ◌≤◌, ◌+◌, ◌-◌, ◌*◌, ◌∙◌, length, ap, sym, arith, length-append}
use Rattle.std.proofs.lemmas.Nat.{column_fits}
use Rattle.cred_scrypt.specs.Scrypt.{piece}
use Rattle.cred_scrypt.proofs.Cuts.{each_pushed, cut_is_piece, length-piece}
use Rattle.cred_scrypt.proofs.pieces.Piece.cut.Goals as goal

pub cuts-preserved : goal.cuts-preserved
cuts-preserved c =
    let k = c.cuts.k in
    let r = c.args.r in
    let b = c.args.bytes.now in
    let words = c.in_ok-words.words.items in
    let at = 128 * r * k in
    let inside : 128 * r * k + 128 * r ≤ length b =
    omega (arith, column_fits (128 * r) k (128 * r) c.args.p c.cuts-test.true (omega arith)) in
    let cut : words ≡ piece r b k =
    cut_is_piece r k (at + 128 * r - at) b words (omega arith) inside c.in_ok-words.ensures in
    let here : piece r b k ≡ piece r b (length c.cuts.pieces.items) = ap (piece r b) (sym c.cuts.invariant.count) in
    record {
      count = rw (c.in_ok-push.ensures.items) (simp length-append (omega arith));
      cut = rw (c.in_ok-push.ensures.items) (each_pushed (λ i p. p.words.items ≡ piece r b i) c.cuts.pieces.items _ c.cuts.invariant.cut (cut ∙ here));
      whole = rw (c.in_ok-push.ensures.items) (each_pushed (λ i p. length p.words.items ≡ 32 * r) c.cuts.pieces.items _ c.cuts.invariant.whole (ap length cut ∙ length-piece r k b));
    }
