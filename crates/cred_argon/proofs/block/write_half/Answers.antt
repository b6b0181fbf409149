use Rattle.std.proofs.Common.{◌+◌, ◌*◌, refl}
use Rattle.cred_argon.proofs.Halves.{IsPut, put_step, no_row}
use Rattle.cred_argon.proofs.block.write_half.Goals as goal

rows : (c : goal.After-write_row-8) → IsPut c.args.x.now c.args.y.now c.args.half (λ _ word. word) c.args.at 8 c.args.out.now c.write_row-8.new.out
rows c =
    let r0 = put_step c.args.x.now c.args.y.now c.args.half (λ _ word. word) c.args.at 0 (16 * 0 + c.args.at) c.args.out.now c.args.out.now c.write_row.new.out c.requires refl (no_row c.args.x.now c.args.y.now c.args.half (λ _ word. word) c.args.at c.args.out.now c.told-out) c.write_row.ensures.len c.write_row.ensures.written c.write_row.ensures.kept in
    let r1 = put_step c.args.x.now c.args.y.now c.args.half (λ _ word. word) c.args.at 1 (16 * 1 + c.args.at) c.args.out.now c.write_row.new.out c.write_row-2.new.out c.requires refl r0 c.write_row-2.ensures.len c.write_row-2.ensures.written c.write_row-2.ensures.kept in
    let r2 = put_step c.args.x.now c.args.y.now c.args.half (λ _ word. word) c.args.at 2 (16 * 2 + c.args.at) c.args.out.now c.write_row-2.new.out c.write_row-3.new.out c.requires refl r1 c.write_row-3.ensures.len c.write_row-3.ensures.written c.write_row-3.ensures.kept in
    let r3 = put_step c.args.x.now c.args.y.now c.args.half (λ _ word. word) c.args.at 3 (16 * 3 + c.args.at) c.args.out.now c.write_row-3.new.out c.write_row-4.new.out c.requires refl r2 c.write_row-4.ensures.len c.write_row-4.ensures.written c.write_row-4.ensures.kept in
    let r4 = put_step c.args.x.now c.args.y.now c.args.half (λ _ word. word) c.args.at 4 (16 * 4 + c.args.at) c.args.out.now c.write_row-4.new.out c.write_row-5.new.out c.requires refl r3 c.write_row-5.ensures.len c.write_row-5.ensures.written c.write_row-5.ensures.kept in
    let r5 = put_step c.args.x.now c.args.y.now c.args.half (λ _ word. word) c.args.at 5 (16 * 5 + c.args.at) c.args.out.now c.write_row-5.new.out c.write_row-6.new.out c.requires refl r4 c.write_row-6.ensures.len c.write_row-6.ensures.written c.write_row-6.ensures.kept in
    let r6 = put_step c.args.x.now c.args.y.now c.args.half (λ _ word. word) c.args.at 6 (16 * 6 + c.args.at) c.args.out.now c.write_row-6.new.out c.write_row-7.new.out c.requires refl r5 c.write_row-7.ensures.len c.write_row-7.ensures.written c.write_row-7.ensures.kept in
    let r7 = put_step c.args.x.now c.args.y.now c.args.half (λ _ word. word) c.args.at 7 (16 * 7 + c.args.at) c.args.out.now c.write_row-7.new.out c.write_row-8.new.out c.requires refl r6 c.write_row-8.ensures.len c.write_row-8.ensures.written c.write_row-8.ensures.kept in
    r7

pub returns-clause-len : goal.returns-clause-len
returns-clause-len c = (rows c).len

pub returns-clause-written : goal.returns-clause-written
returns-clause-written c = (rows c).written

pub returns-clause-kept : goal.returns-clause-kept
returns-clause-kept c = (rows c).kept
