use Rattle.cred_phc.specs.Tags.{argon_parameters}
use Rattle.cred_c.specs.Answers.{output}
use Rattle.cred_c.proofs.RecordLanes.{IsMade, record_end_of_tag, record_end_of_fault}
use Rattle.cred_c.proofs.record_lanes.hash_end.Goals as goal

pub returns-in-Ok-clause-made : goal.returns-in-Ok-clause-made
returns-in-Ok-clause-made c =
    let s = c.args.setting.now in
    let p = argon_parameters s.scheme c.args.tag_len in
    let ends = c.tag_from.ensures in
    let made : IsMade s c.args.tag_len p c.args.last.now c.tag_from.result =
    record { scheme = ends.scheme; place = ends.place; memory = ends.memory; tag_of = ends.made } in
    record_end_of_tag s c.args.tag_len p c.args.last.now c.in-Ok.made (output c.put_record.result c.args.out.now c.put_record.new.out c.put_record.new.len)
    (rw c.in-Ok.is at made) (rw c.with_tag.ensures.made at c.put_record.ensures.written)

pub returns-in-Err-clause-made : goal.returns-in-Err-clause-made
returns-in-Err-clause-made c =
    let s = c.args.setting.now in
    let p = argon_parameters s.scheme c.args.tag_len in
    let ends = c.tag_from.ensures in
    let made : IsMade s c.args.tag_len p c.args.last.now c.tag_from.result =
    record { scheme = ends.scheme; place = ends.place; memory = ends.memory; tag_of = ends.made } in
    rw c.number.ensures (record_end_of_fault s c.args.tag_len p c.args.last.now c.in-Err.fault c.args.out.now c.args.out.now c.args.len.now (rw c.in-Err.is at made))
