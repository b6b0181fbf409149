use Rattle.std.proofs.Common.{◌≡◌, List, ℕ, ◌++◌, ◌<◌, ◌≤◌, length, ap, refl, ◌∙◌, arith}
use Rattle.std.proofs.lemmas.Bool.Decides.{nat_tests}
use Rattle.cred_blake.specs.Blake2b.{initial_state, key_block, padded_block}
use Rattle.cred_blake.specs.Hasher.{Holds}
use Rattle.cred_blake.proofs.Feeding.{Fed_new, key_block_none, key_block_some}
use Rattle.cred_blake.proofs.hasher.Blake2b.new.Goals as goal
use Rattle.cred_blake.proofs.hasher.Blake2b.new.Goals.{then-not-is_empty, else-not-is_empty}

pub returns-clause-ok : goal.returns-clause-ok
unfolding Holds
returns-clause-ok c =
    let key = c.args.key.now in
    let buffer : c.if-not-is_empty.buffer ≡ key_block key = elim c.if-not-is_empty.branch [
      | then-not-is_empty w ↦
          let some : 0 < length key = grind (arith, nat_tests, w.if-not-is_empty.true) in
          let whole : w.extend.new.self ≡ key = w.extend.ensures ∙ ap (λ (b : List ℕ). b ++ key) c.new-buffer.ensures in
          w.buffer-is ∙ w.pad.ensures ∙ ap (λ (b : List ℕ). padded_block b) whole ∙ key_block_some key some
      | else-not-is_empty w ↦
          let none : length key ≤ 0 = grind (arith, nat_tests, w.if-not-is_empty.false) in
          w.buffer-is ∙ c.new-buffer.ensures ∙ key_block_none key none
    ] in
    (refl, Fed_new (initial_state c.args.out_len (length key)) key _ _ c.new.ensures.h c.new.ensures.counter buffer (omega arith))
