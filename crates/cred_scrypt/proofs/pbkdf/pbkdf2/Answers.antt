use Rattle.std.proofs.Common.{◌≡◌, ◌≤◌, ◌+◌, ◌/◌, ◌∙◌, length, take, refl, sym, ap, arith, length-append, []}
use Rattle.std.proofs.lemmas.List.{take_all}
use Rattle.cred_scrypt.specs.Pbkdf2.{derived_blocks, pbkdf2}
use Rattle.cred_scrypt.proofs.Derivations.{cut_next, derived_next}
use Rattle.cred_scrypt.proofs.pbkdf.pbkdf2.Goals as goal

pub macs-init : goal.macs-init
unfolding derived_blocks
macs-init c = record { made = rw (c.in_ok-key.ensures.items) (sym (take_all c.args.len [] (omega arith))); long = refl }

pub macs-preserved : goal.macs-preserved
macs-preserved c =
    let pw = c.args.pw.now in
    let salt = c.args.salt.now in
    let block = c.derived_block-block.result in
    let width : length block ≡ 32 = omega arith in
    let next = derived_next pw salt block c.args.c c.macs.i (c.derived_block-block.ensures pw c.new-mac.ensures) in
    let long = c.macs.invariant.long in
    let room : length (derived_blocks pw salt c.args.c c.macs.i) ≤ c.args.len = omega arith in
    record {
      made = rw (c.in_ok-extend_from_slice.ensures.items, c.min-width.ensures, ← long, next)
          (cut_next _ block _ c.args.len 32 room width c.macs.invariant.made);
      long = omega (arith, ap length next, length-append (derived_blocks pw salt c.args.c c.macs.i) block);
    }

pub returns-clause-ok : goal.returns-clause-ok
unfolding pbkdf2
returns-clause-ok c =
    let worked : c.macs.i ≡ (c.args.len + 31) / 32 = omega arith in
    c.macs.invariant.made ∙ ap (λ n. take c.args.len (derived_blocks c.args.pw.now c.args.salt.now c.args.c n)) worked
