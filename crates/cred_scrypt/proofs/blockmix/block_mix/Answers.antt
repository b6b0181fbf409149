use Rattle.std.proofs.Common.{◌≡◌, ◌+◌, ◌*◌, ◌/◌, ◌≤◌, ◌++◌, length, refl, sym, ◌∙◌, ap, ap₂, arith}
use Rattle.std.proofs.lemmas.List.{take_all}
use Rattle.cred_scrypt.specs.Mixing.{chain, every_second, block_mix}
use Rattle.cred_scrypt.proofs.Steps.{chain_next, every_second_next}
use Rattle.cred_scrypt.proofs.blockmix.block_mix.Goals as goal

pub pairs-init : goal.pairs-init
unfolding chain every_second
pairs-init c = record { chained = c.block-x.ensures; evens = refl; odds = refl }

pub pairs-preserved : goal.pairs-preserved
pairs-preserved c =
    let first : _ ≡ chain _ c.args.from.now (2 * c.pairs.i + 1) =
    c.chain.ensures ∙ chain_next _ _ _ _ _ c.pairs.invariant.chained refl in
    let second : _ ≡ chain _ c.args.from.now (2 * (c.pairs.i + 1)) =
    c.chain-in-pairs.ensures ∙ chain_next _ _ _ _ _ first (omega arith) in
    record {
      chained = second;
      evens = c.put.ensures ∙ every_second_next _ _ _ _ _ _ _ c.pairs.invariant.evens first (omega arith);
      odds = c.put-in-pairs.ensures ∙ every_second_next _ _ _ _ _ _ _ c.pairs.invariant.odds second (omega arith);
    }

pub returns : goal.returns
unfolding block_mix
returns c =
    let r = length c.args.from.now / 32 in
    let worked : c.pairs.i ≡ r = omega arith in
    let even_end : length c.pairs.even ≤ 16 * c.pairs.i = omega arith in
    let odd_end : length c.pairs.odd ≤ 16 * c.pairs.i = omega arith in
    ap₂ (λ a b. a ++ b)
    (sym (take_all _ _ even_end) ∙ c.pairs.invariant.evens ∙ ap (every_second r c.args.from.now 0) worked)
    (sym (take_all _ _ odd_end) ∙ c.pairs.invariant.odds ∙ ap (every_second r c.args.from.now 1) worked)
