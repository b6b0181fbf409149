use Rattle.std.proofs.Common.{[]}
use Rattle.cred_argon.specs.Argon.{first_hash}
use Rattle.cred_argon.proofs.inputs.first_hash.Goals as goal

pub returns-clause-value : goal.returns-clause-value
unfolding first_hash
returns-clause-value c =
    let lanes = c.feed_number.ensures 64 [] [] c.in-Ok.ensures.ok in
    let tag_len = c.feed_number-2.ensures 64 [] _ lanes in
    let memory = c.feed_number-3.ensures 64 [] _ tag_len in
    let passes = c.feed_number-4.ensures 64 [] _ memory in
    let version = c.feed_number-5.ensures 64 [] _ passes in
    let kind = c.feed_number-6.ensures 64 [] _ version in
    let pw = c.feed_input.ensures 64 [] _ kind in
    let salt = c.feed_input-2.ensures 64 [] _ pw in
    let secret = c.feed_input-3.ensures 64 [] _ salt in
    let assoc = c.feed_input-4.ensures 64 [] _ secret in
    rw (
      c.lanes.ensures.value,
      c.tag_len.ensures.value,
      c.memory.ensures,
      c.passes.ensures.value,
      c.number.ensures,
      c.version.ensures,
      c.number-2.ensures,
      c.kind.ensures,
    ) at (c.finalize.ensures.value 64 [] _ assoc)
