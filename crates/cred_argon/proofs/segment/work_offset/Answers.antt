use Rattle.std.proofs.Common.{◌≡◌, ◌<◌, [], length, ap, arith}
use Rattle.cred_argon.specs.declared.position.Position.{Position}
use Rattle.cred_argon.proofs.Steps.{own_step}
use Rattle.cred_argon.proofs.segment.work_offset.Goals as goal

pub returns : goal.returns
returns g c h held addresses own =
    let halves = c.split_at_mut-done in
    let rest : 0 < length halves.result.1.now = omega (arith, halves.ensures.back_len, c.requires.there) in
    let lane : c.position-position.result.lane ≡ c.args.lane = ap (λ (q : Position). q.lane) c.position-position.ensures in
    own_step h c.args.shared.now.turn c.args.lane c.args.offset halves.result.0.now halves.result.1.now c.work_block.new.due (record { 0 = [] })
    halves.ensures.front_len rest c.requires.offset (rw halves.ensures.value at own)
    (λ done due. (rw lane at c.work_block.ensures) h held done (rw halves.ensures.front_len addresses) due)
