use Rattle.std.proofs.Common.{◌++◌, length, refl, ap, ◌∙◌, arith}
use Rattle.cred_blake.specs.Blake2b.{blake, initial_state, key_block}
use Rattle.cred_blake.specs.Hasher.{Holds}
use Rattle.cred_blake.proofs.{Feeding.Fed_last, Lengths.length-blake}
use Rattle.cred_blake.proofs.hasher.Blake2b.finalize.Goals as goal

pub returns-clause-value : goal.returns-clause-value
unfolding blake Holds
returns-clause-value c = λ n key m held.
    let s = c.args.self in
    let last = Fed_last (initial_state n (length key)) (key_block key ++ m) s.buffer s.state held.1 in
    c.of_state.ensures ∙ rw (held.0, c.absorb_last.ensures, c.bytes.ensures, c.pad.ensures, c.len-len.ensures.exact, last) refl

pub returns-clause-len : goal.returns-clause-len
unfolding Holds
returns-clause-len c = λ n key m held.
    let len = held.0 in
    ap length (returns-clause-value c n key m held) ∙ length-blake n key m (omega arith)
