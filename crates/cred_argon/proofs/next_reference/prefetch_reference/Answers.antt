use Rattle.std.proofs.Common.{arith}
use Rattle.cred_argon.proofs.Distances.{distance_of}
use Rattle.cred_argon.proofs.next_reference.prefetch_reference.Goals as goal

pub earlier_block-requires-clause-worked : goal.earlier_block-requires-clause-worked
earlier_block-requires-clause-worked g c =
    let value = c.segment_len-segment_len.ensures.value in
    let slice = c.slice_and_offset-slice.ensures.slice in
    let there = c.requires.readable in
    let distance = distance_of _ _ _ _ _ _ there.0 c.requires.shaped.slice c.requires.offset there.1 in
    rw (slice, value, ← there.3) (omega (arith, distance.number))
