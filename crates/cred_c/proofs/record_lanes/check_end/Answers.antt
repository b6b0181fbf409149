use Rattle.std.proofs.Common.{length}
use Rattle.cred_c.specs.Lanes.{record_parameters}
use Rattle.cred_c.proofs.RecordLanes.{IsMade, end_of_tag, end_of_fault}
use Rattle.cred_c.proofs.record_lanes.check_end.Goals as goal

pub returns-in-Ok-clause-verdict : goal.returns-in-Ok-clause-verdict
returns-in-Ok-clause-verdict c =
    let v = c.args.stored.now in
    let ends = c.tag_from.ensures in
    let made : IsMade v.setting (length v.tag) (record_parameters v) c.args.last.now c.tag_from.result =
    rw (← c.setting.ensures.value, ← c.tag_len_of.ensures.value) (record { scheme = ends.scheme; place = ends.place; memory = ends.memory; tag_of = ends.made }) in
    let right = rw c.tag.ensures.value at c.verdict.ensures.right in
    end_of_tag v (record_parameters v) c.args.last.now c.in-Ok.made c.verdict.result (rw c.in-Ok.is at made) right c.verdict.ensures.one_of

pub returns-in-Err-clause-verdict : goal.returns-in-Err-clause-verdict
returns-in-Err-clause-verdict c =
    let v = c.args.stored.now in
    let ends = c.tag_from.ensures in
    let made : IsMade v.setting (length v.tag) (record_parameters v) c.args.last.now c.tag_from.result =
    rw (← c.setting.ensures.value, ← c.tag_len_of.ensures.value) (record { scheme = ends.scheme; place = ends.place; memory = ends.memory; tag_of = ends.made }) in
    rw c.number.ensures (end_of_fault v (record_parameters v) c.args.last.now c.in-Err.fault (rw c.in-Err.is at made))
