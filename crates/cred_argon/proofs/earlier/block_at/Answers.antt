use Rattle.std.proofs.Common.{◌%◌, ◌∙◌, [], ap}
use Rattle.cred_argon.specs.{Parameters.segment_len, Cells.cell}
use Rattle.cred_argon.proofs.Distances.{distance_of, distance_own, distance_place}
use Rattle.cred_argon.proofs.earlier.block_at.Goals as goal

pub bounds-done-offset : goal.bounds-done-offset
bounds-done-offset g c =
    let value = c.segment_len-segment_len.ensures.value in
    let slice = c.slice_and_offset-slice.ensures.slice in
    let offset = c.slice_and_offset-slice.ensures.offset in
    let there = c.requires.readable in
    let distance = distance_of _ _ _ _ _ _ there.0 c.requires.shaped.slice c.requires.offset there.1 in
    rw (offset, value) (rw there.3 at (distance.own (rw (there.3, ← value, ← slice) c.if-back-eq0.true)))

pub returns-then-back-eq0 : goal.returns-then-back-eq0
returns-then-back-eq0 g c p before lane column h held done =
    let a = c.args.shared.now.turn.params in
    let value = c.segment_len-segment_len.ensures.value in
    let slice = c.slice_and_offset-slice.ensures.slice in
    let offset = c.slice_and_offset-slice.ensures.offset in
    let distance = distance_of _ _ _ _ _ _ p c.requires.shaped.slice c.requires.offset before in
    let none = rw (slice, value, ← column) at c.if-back-eq0.true in
    rw (offset, value, ← column) (done (p.column % segment_len a) (record { 0 = [] }) (distance.own none)
    ∙ ap (cell a h) (distance_own _ _ _ _ _ p _ c.requires.shaped.slice distance none))

pub returns-else-back-eq0 : goal.returns-else-back-eq0
returns-else-back-eq0 g c p before lane column h held done =
    let distance = distance_of _ _ _ _ _ _ p c.requires.shaped.slice c.requires.offset before in
    rw (c.slice_and_offset-slice.ensures.slice, c.slice_and_offset-slice.ensures.offset, c.segment_len-segment_len.ensures.value, ← column, ← lane) at (c.earlier_block.ensures h held)
    ∙ ap (cell c.args.shared.now.turn.params h) (distance_place _ _ _ _ _ p _ distance)
