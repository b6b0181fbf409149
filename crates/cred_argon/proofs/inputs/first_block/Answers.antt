use Rattle.std.proofs.Common.{◌≡◌, ℕ, ◌+◌, List, ◌++◌, length, take, ap, sym, ◌∙◌, arith}
use Rattle.std.proofs.lemmas.List.{take_all}
use Rattle.cred_blake.specs.{HashPrime.hash_prime, Words.words_of}
use Rattle.cred_argon.specs.{Cells.first_cell, Argon.le32}
use Rattle.cred_argon.proofs.inputs.first_block.Goals as goal

pub returns : goal.returns
unfolding first_cell
returns c =
    let hash = c.args.hash.now in
    let width : 0 + length hash ≡ 64 = omega (arith, c.requires) in
    let first : take 64 c.put.new.out ≡ hash = rw width at c.put.ensures.front in
    let second : take 68 c.put-2.new.out ≡ hash ++ le32 c.args.column = rw (first, c.to_le_bytes.ensures) at c.put-2.ensures.front in
    let third : take 72 c.put-3.new.out ≡ hash ++ le32 c.args.column ++ le32 c.args.lane = rw (second, c.to_le_bytes-2.ensures) at c.put-3.ensures.front in
    let input = sym (take_all 72 c.put-3.new.out (omega (arith, c.put-3.ensures.len))) ∙ third in
    c.block_of_bytes.ensures ∙ ap (λ (b : List ℕ). words_of b 128) (c.hprime_block.ensures ∙ ap (λ (x : List ℕ). hash_prime 1024 x) input)
