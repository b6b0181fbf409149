use Rattle.std.proofs.Common.{◌≡◌, ◌∙◌, [], sym}
use Rattle.cred_c.proofs.RecordLanes.{tag_is}
use Rattle.cred_c.proofs.record_lanes.tag_from.Goals as goal

pub returns-in-Ok-clause-made : goal.returns-in-Ok-clause-made
returns-in-Ok-clause-made c a is pw filled =
    let setting = c.args.setting.now in
    let same : c.in-Some.params ≡ a = cc in
    let made = c.in-Ok.ensures.ok pw setting.salt [] [] (rw same filled) in
    c.tag_of_bytes.ensures ∙ c.deref.ensures.value ∙ rw same at made ∙ sym (tag_is setting c.args.tag_len a pw is)
