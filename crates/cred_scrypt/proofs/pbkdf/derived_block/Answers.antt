use Rattle.std.proofs.Common.{◌≡◌, ◌+◌, ◌-◌, ◌∙◌, ap, arith}
use Rattle.cred_scrypt.specs.Pbkdf2.{iteration, xor_of_iterations}
use Rattle.cred_scrypt.proofs.Derivations.{iterations_next}
use Rattle.cred_scrypt.proofs.pbkdf.derived_block.Goals as goal

pub iterations-init : goal.iterations-init
unfolding xor_of_iterations
iterations-init c = record { last = c.first_iteration-last.ensures; all = c.first_iteration-last.ensures }

pub iterations-preserved : goal.iterations-preserved
iterations-preserved c =
    let k = c.iterations._iteration in
    let next : k - 1 + 1 ≡ k + 1 - 1 = omega arith in
    let last = λ (pw : _) (keyed : _).
    c.next_iteration-last.ensures pw c.args.salt.now c.args.i (k - 1) keyed (c.iterations.invariant.last pw keyed)
    ∙ ap (iteration pw c.args.salt.now c.args.i) next in
    record {
      last = last;
      all = λ pw keyed. c.xor_bytes.ensures
          ∙ iterations_next pw _ _ _ _ _ _ (c.iterations.invariant.all pw keyed) (last pw keyed) (omega arith);
    }
