use Rattle.std.proofs.{Common.rules, Common.◌≡◌, Common.ℕ, Common.List, Common.◌∙◌, Common.take, Common.arith, Common.ap, Common.sym, lemmas.List.take_all}
use Rattle.std.proofs.lemmas.Slice.{overwrites}
use Rattle.cred_blake.proofs.WordBytes.{bytes_of_more}
use Rattle.cred_blake.proofs.digest.Digest.of_state.Goals as goal

pub loop-i-preserved : goal.loop-i-preserved
loop-i-preserved c = (search (rules, overwrites), bytes_of_more c.loop-i.bytes c.args.h.now _ c.loop-i.i _ c.loop-i.invariant.1 (omega arith) (omega arith) (c.copy_from_slice.ensures.after ∙ c.to_le_bytes.ensures))

pub returns : goal.returns
returns c =
    let done : c.loop-i.i ≡ 8 = omega arith in
    let words = rw (done, take_all 8 c.args.h.now (omega arith)) at c.loop-i.invariant.1 in
    ap (λ (out : List ℕ). take c.args.len out) (sym (take_all 64 c.loop-i.bytes (omega arith)) ∙ words)
