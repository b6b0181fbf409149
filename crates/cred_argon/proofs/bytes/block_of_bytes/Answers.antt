use Rattle.std.proofs.{Common.ℕ, Common.◌*◌, Common.◌∙◌, Common.sym, Common.arith, lemmas.List.FromFn.fill_by_all}
use Rattle.cred_blake.specs.Words.{word_at}
use Rattle.cred_argon.proofs.FirstCells.{words_of_is}
use Rattle.cred_argon.proofs.bytes.block_of_bytes.Goals as goal

pub returns : goal.returns
returns c =
    fill_by_all (λ (k : ℕ). word_at c.args.bytes.now (8 * k)) c.words.words 128 0 c.words.invariant.0 (λ k h. c.words.invariant.1 k (omega arith))
    ∙ sym (words_of_is c.args.bytes.now 128)
