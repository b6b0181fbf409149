use Rattle.std.proofs.Common.{ℕ, ◌≤◌, ◌-◌, ◌*◌, ◌∙◌, refl, ap, ap₂, arith}
use Rattle.cred_argon.specs.{Parameters.segment_len, Compress.xor_words, Cells.cell, Argon.last_blocks}
use Rattle.cred_argon.proofs.LastBlocks.{last_blocks_next, last_place}
use Rattle.cred_argon.proofs.tag.last_blocks.Goals as goal

pub lanes-init : goal.lanes-init
unfolding last_blocks
lanes-init g c = (ap (λ (n : ℕ). n - 1) c.segment_len-last.ensures.value, c.lanes-lane-end.ensures.value, λ h held. refl)

pub lanes-preserved : goal.lanes-preserved
lanes-preserved g c =
    let a = c.args.params.now in
    let value = c.segment_len-last.ensures.value in
    let some : 2 ≤ segment_len a = rw value at c.segment_len-last.ensures.at_least in
    let pass : 1 ≤ a.passes = c.segment_len-last.ensures.some_pass in (
      c.lanes.invariant.0,
      c.lanes.invariant.1,
      λ h held.
          let found = c.block_of.ensures h (4 * a.passes - 1) held in
          let here = rw value at found in
          let last = here ∙ ap (cell a h) (last_place a.passes (segment_len a) c.lanes.lane pass (omega (arith, some))) in
          c.add_onto.ensures ∙ ap₂ xor_words (c.lanes.invariant.2 h held) last ∙ last_blocks_next a h c.lanes.lane,
    )
